use Rattle.std.proofs.Common.{◌≡◌, ◌∙◌, ◌+◌, ◌/◌, ◌%◌, ℕ, List, ap, arith, get_or, length, subst, sym}
use Rattle.std.specs.Int.{bit_at}
use Rattle.std.specs.Prelude.{nat_eq}
use Rattle.std.proofs.lemmas.List.{with_items_is}
use Rattle.icu_frozen_sets.specs.FrozenWords.{offset_words}
use Rattle.icu_frozen_sets.specs.Inside.Filling.{SetsBlock, is_odd_at}
use Rattle.icu_frozen_sets.proofs.BlockLemmas.{sets_first}
use Rattle.icu_frozen_sets.proofs.bits.FrozenWords.set_first.Goals as goal

pub returns-clause-sets : goal.returns-clause-sets
returns-clause-sets c =
    let v = c.self.inside.words in
    let p = c.write_block in
    let items = c.deref_mut.ensures.value in
    let kept = with_items_is v p.new.words (omega (arith, p.ensures.len, c.deref_mut.ensures.len)) in
    let first : c.offset_count-first.result ≡ offset_words v.items =
    c.offset_count-first.ensures ∙ ap (λ (l : List ℕ). offset_words l) c.deref.ensures.value in
    rw (← c.self.view_is) (subst (λ (l : List ℕ). SetsBlock v.items l 0 (is_odd_at c.args.marks.now)) (sym kept)
    (sets_first v.items p.new.words (is_odd_at c.args.marks.now) (rw (← c.self.view_is) at c.requires)
    (p.ensures.len ∙ ap (λ (l : List ℕ). length l) items)
    (λ k. ap (λ (n : ℕ). nat_eq (bit_at (get_or p.new.words (n + k / 64 % 16) 0) (k % 64)) 1) (sym first) ∙ p.ensures.set k)
    (λ k h. p.ensures.before k (omega (arith, h, first)) ∙ ap (λ (l : List ℕ). get_or l k 0) items)
    (λ k h. p.ensures.after k (omega (arith, h, first)) ∙ ap (λ (l : List ℕ). get_or l k 0) items)))

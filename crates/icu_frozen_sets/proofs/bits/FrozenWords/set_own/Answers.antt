use Rattle.std.proofs.Common.{◌∙◌, ℕ, List, ap, arith, get_or, length, refl, set}
use Rattle.std.proofs.lemmas.List.{with_items_is}
use Rattle.icu_frozen_sets.specs.Inside.Filling.{is_odd_at}
use Rattle.icu_frozen_sets.proofs.BlockLemmas.{sets_own}
use Rattle.icu_frozen_sets.proofs.bits.FrozenWords.set_own.Goals as goal

pub returns : goal.returns
returns c =
    let v = c.self.inside.words in
    let longer = c.resize.new.self in
    let w = c.write_block in
    let items = c.deref_mut.ensures.value in
    let kept = with_items_is longer w.new.words (omega (arith, w.ensures.len, c.deref_mut.ensures.len)) in
    rw (← c.self.view_is) (sets_own v.items longer.items w.new.words _ (is_odd_at c.args.marks.now) c.args.at c.len-place.result _ v.len
    (rw (← c.self.view_is) at c.requires.filling) c.requires.some c.requires.there (omega (arith, v.ok)) c.len-place.ensures refl
    c.in_ok-resize.ensures.items (w.ensures.len ∙ ap (λ (l : List ℕ). length l) items)
    (λ k h. w.ensures.before k h ∙ ap (λ (l : List ℕ). get_or l k 0) items) w.ensures.set
    (ap (λ (l : List ℕ). set l c.args.at c.len-place.result) kept))

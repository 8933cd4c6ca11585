use Rattle.std.proofs.Common.{◌≡◌, ◌∙◌, ℕ, List, ap, arith, subst, sym}
use Rattle.std.proofs.lemmas.List.{with_items_is}
use Rattle.icu_frozen_sets.specs.FrozenWords.{bit_in, offset_words, place_in}
use Rattle.icu_frozen_sets.specs.Inside.Filling.{AreTables}
use Rattle.icu_frozen_sets.proofs.BlockLemmas.{fills_run}
use Rattle.icu_frozen_sets.proofs.bits.FrozenWords.fill_blocks.Goals as goal

pub returns-clause-tables : goal.returns-clause-tables
returns-clause-tables c =
    let v = c.self.inside.words in
    let f = c.fill in
    let kept = with_items_is v f.new.words (omega (arith, f.ensures.len, c.deref_mut.ensures.len)) in
    let count : c.offset_count-offsets.result ≡ offset_words v.items =
    c.offset_count-offsets.ensures ∙ ap (λ (l : List ℕ). offset_words l) c.deref.ensures.value in
    let run = fills_run v.items c.deref_mut.result.now f.new.words c.args.from c.args.to c.min-last.result c.offset_count-offsets.result
    (rw (← c.self.view_is) at c.requires.tables) c.requires.some c.requires.order c.requires.there
    (rw (← c.self.view_is) at c.requires.before) (rw (← c.self.view_is) at c.requires.after) count c.min-last.ensures
    c.deref_mut.ensures.value f.ensures.len f.ensures.all in
    subst AreTables (sym kept) run.tables

pub returns-clause-offsets : goal.returns-clause-offsets
returns-clause-offsets c =
    let v = c.self.inside.words in
    let f = c.fill in
    let kept = with_items_is v f.new.words (omega (arith, f.ensures.len, c.deref_mut.ensures.len)) in
    let count : c.offset_count-offsets.result ≡ offset_words v.items =
    c.offset_count-offsets.ensures ∙ ap (λ (l : List ℕ). offset_words l) c.deref.ensures.value in
    let run = fills_run v.items c.deref_mut.result.now f.new.words c.args.from c.args.to c.min-last.result c.offset_count-offsets.result
    (rw (← c.self.view_is) at c.requires.tables) c.requires.some c.requires.order c.requires.there
    (rw (← c.self.view_is) at c.requires.before) (rw (← c.self.view_is) at c.requires.after) count c.min-last.ensures
    c.deref_mut.ensures.value f.ensures.len f.ensures.all in
    rw (← c.self.view_is) (ap (λ (l : List ℕ). offset_words l) kept ∙ run.offsets)

pub returns-clause-others : goal.returns-clause-others
returns-clause-others c =
    let v = c.self.inside.words in
    let f = c.fill in
    let kept = with_items_is v f.new.words (omega (arith, f.ensures.len, c.deref_mut.ensures.len)) in
    let count : c.offset_count-offsets.result ≡ offset_words v.items =
    c.offset_count-offsets.ensures ∙ ap (λ (l : List ℕ). offset_words l) c.deref.ensures.value in
    let run = fills_run v.items c.deref_mut.result.now f.new.words c.args.from c.args.to c.min-last.result c.offset_count-offsets.result
    (rw (← c.self.view_is) at c.requires.tables) c.requires.some c.requires.order c.requires.there
    (rw (← c.self.view_is) at c.requires.before) (rw (← c.self.view_is) at c.requires.after) count c.min-last.ensures
    c.deref_mut.ensures.value f.ensures.len f.ensures.all in
    rw (← c.self.view_is) (λ b l h. ap (λ (t : List ℕ). place_in t b) kept ∙ run.after b l h)

pub returns-clause-bits : goal.returns-clause-bits
returns-clause-bits c =
    let v = c.self.inside.words in
    let f = c.fill in
    let kept = with_items_is v f.new.words (omega (arith, f.ensures.len, c.deref_mut.ensures.len)) in
    let count : c.offset_count-offsets.result ≡ offset_words v.items =
    c.offset_count-offsets.ensures ∙ ap (λ (l : List ℕ). offset_words l) c.deref.ensures.value in
    let run = fills_run v.items c.deref_mut.result.now f.new.words c.args.from c.args.to c.min-last.result c.offset_count-offsets.result
    (rw (← c.self.view_is) at c.requires.tables) c.requires.some c.requires.order c.requires.there
    (rw (← c.self.view_is) at c.requires.before) (rw (← c.self.view_is) at c.requires.after) count c.min-last.ensures
    c.deref_mut.ensures.value f.ensures.len f.ensures.all in
    rw (← c.self.view_is) (λ k h. ap (λ (t : List ℕ). bit_in t k) kept ∙ run.bits k h)

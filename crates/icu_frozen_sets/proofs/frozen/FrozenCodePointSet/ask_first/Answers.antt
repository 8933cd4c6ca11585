use Rattle.std.proofs.Common.{◌∙◌, ◌+◌, ◌*◌, ℕ, ap, arith, refl, slice_index}
use Rattle.icu_invlist.specs.InversionList.{holds}
use Rattle.icu_frozen_sets.proofs.CharacterLemmas.{asked_ascii, asked_first}
use Rattle.icu_frozen_sets.proofs.frozen.FrozenCodePointSet.ask_first.Goals as goal

pub returns-then-lead-lt128 : goal.returns-then-lead-lt128
returns-then-lead-lt128 c =
    let s = c.self.inside in
    let lead = slice_index c.args.bytes.now 0 in
    rw (← c.self.view_is) (asked_ascii s.set c.args.bytes.now lead _ refl c.requires.more (omega arith)
    (c.self.invariant.first lead (omega arith)))

pub returns-then-lead-lt224 : goal.returns-then-lead-lt224
returns-then-lead-lt224 c =
    let p = c.place_of_two-upper in
    asked_first c.args.self.now c.args.bytes.now (p.result.0 * 64 + p.result.1) 2 c.contains_short.result p.ensures.part
    (c.contains_short.ensures ∙ ap (λ (n : ℕ). holds c.args.self.now n) (omega arith))

pub returns-then-lead-lt240 : goal.returns-then-lead-lt240
returns-then-lead-lt240 c =
    let p = c.place_of_three-upper in
    asked_first c.args.self.now c.args.bytes.now (p.result.0 * 64 + p.result.1) 3 c.contains_bmp.result p.ensures.part
    (c.contains_bmp.ensures ∙ ap (λ (n : ℕ). holds c.args.self.now n) (omega arith))

pub returns : goal.returns
returns c =
    asked_first c.args.self.now c.args.bytes.now c.number_of_four.result 4 c.contains32.result c.number_of_four.ensures
    c.contains32.ensures.held

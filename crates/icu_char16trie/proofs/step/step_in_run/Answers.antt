use Rattle.icu_zerovec.specs.Slice.{slice_values}
use Rattle.std.proofs.Common.{◌≡◌, ◌+◌, sym, inl, arith}
use Rattle.std.proofs.lemmas.Bool.{ne_eqb}
use Rattle.icu_char16trie.specs.UnitMap.{after}
use Rattle.icu_char16trie.specs.UnitPlaces.{InRun}
use Rattle.icu_char16trie.proofs.NodeLemmas.{run_step, run_other, run_end}
use Rattle.icu_char16trie.proofs.step.step_in_run.Goals as goal

pub returns-then-next-unit-clause-stands : goal.returns-then-next-unit-clause-stands
returns-then-next-unit-clause-stands c = λ m r.
    run_other (slice_values c.args.units) c.args.place c.args.left c.args.unit c.in-Some.next m r (sym c.in-Some.ensures.unit)
    (ne_eqb _ _ c.if-next-unit.true)

pub returns-in-Some-checked_sub-clause-stands : goal.returns-in-Some-checked_sub-clause-stands
returns-in-Some-checked_sub-clause-stands c = λ m r.
    let more : c.in-Some-checked_sub.left + 1 ≡ c.args.left = omega arith in
    rw more (run_step (slice_values c.args.units) c.args.place c.args.left c.args.unit c.in-Some.next m r (sym c.in-Some.ensures.unit)
    c.if-next-unit.false)

pub returns-in-None-clause-stands : goal.returns-in-None-clause-stands
returns-in-None-clause-stands c = λ m r.
    let no_more : c.args.left ≡ 0 = omega arith in
    let rest : InRun (slice_values c.args.units) (c.args.place + 1) c.args.left (after c.args.unit m) =
    run_step (slice_values c.args.units) c.args.place c.args.left c.args.unit c.in-Some.next m r (sym c.in-Some.ensures.unit)
    c.if-next-unit.false in
    inl (run_end (slice_values c.args.units) (c.args.place + 1) (after c.args.unit m) (rw no_more at rest))

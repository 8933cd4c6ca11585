use Rattle.std.proofs.Common.{◌≡◌, ◌∙◌, false, arith}
use Rattle.std.proofs.lemmas.List.{get_or-replicate}
use Rattle.icu_invlist.specs.InversionList.{ranges_of}
use Rattle.icu_frozen_sets.proofs.FreezeLemmas.{marks_more, marks_none, marks_order, marks_past}
use Rattle.icu_frozen_sets.proofs.ascii.ascii_of.Goals as goal

pub loop-range-init : goal.loop-range-init
loop-range-init c =
    let e = c.iter_ranges-range-items.ensures in
    let same : c.into_iter-range-iterator.result ≡ c.args.set.now = c.into_iter-range-iterator.ensures.into_iter_gives ∙ e.gives in
    rw same (marks_none c.args.set.now (ranges_of c.args.set.now) _ (λ k h. get_or-replicate 128 k false false h) e.apart e.within e.held)

pub returns-then-start-ge128 : goal.returns-then-start-ge128
returns-then-start-ge128 c = marks_past c.args.set.now (ranges_of c.loop-range.range-iterator) (ranges_of c.next.new.self) c.in-Some.range
    c.loop-range.ascii c.in-Some.ensures.steps (omega (arith, c.if-start-ge128.true, c.start.ensures)) c.loop-range.invariant

pub mark-requires-clause-order : goal.mark-requires-clause-order
mark-requires-clause-order c =
    let order = marks_order c.args.set.now (ranges_of c.loop-range.range-iterator) (ranges_of c.next.new.self) c.in-Some.range
    c.loop-range.ascii c.in-Some.ensures.steps c.loop-range.invariant in
    omega (arith, order, c.start.ensures, c.start-in-loop-range.ensures, c.end.ensures, c.min.ensures, c.if-start-ge128.false)

pub loop-range-preserved : goal.loop-range-preserved
loop-range-preserved c = marks_more c.args.set.now (ranges_of c.loop-range.range-iterator) (ranges_of c.next.new.self) c.in-Some.range
    c.loop-range.ascii c.mark.new.ascii c.start-in-loop-range.result.now c.min.result c.in-Some.ensures.steps (cc)
    (omega (arith, c.min.ensures, c.end.ensures)) c.loop-range.invariant c.mark.ensures

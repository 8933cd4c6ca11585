use Rattle.std.proofs.Common.{◌≡◌, ◌∙◌, ap, sym, Some, slice_get, arith}
use Rattle.icu_zerovec.specs.Slice.{slice_values}
use Rattle.icu_invlist_binary.proofs.UnitLemmas.{counted_limit, counted_none, counted_pair, counted_single, counted_singles, counted_units}
use Rattle.icu_invlist_binary.proofs.serialized.counts_of.Goals as goal
use Rattle.icu_invlist_binary.proofs.serialized.counts_of.Goals.{then-end-lt65536, else-end-lt65536+then-end-lt-CODE_POINT_LIMIT, else-end-lt65536+else-end-lt-CODE_POINT_LIMIT}

pub loop-i-init : goal.loop-i-init
loop-i-init c = counted_none (slice_values c.args.ends)

pub loop-i-preserved : goal.loop-i-preserved
loop-i-preserved c =
    let x : slice_get (slice_values c.args.ends) c.loop-i.i ≡ Some c.from-end.result = c.at.ensures ∙ ap Some (sym c.from-end.ensures) in
    elim c.if-end-lt65536.branch [
      | then-end-lt65536 w ↦ rw (w.units-is, w.singles-is)
          (counted_single (slice_values c.args.ends) c.loop-i.i c.loop-i.units c.loop-i.singles c.from-end.result x w.if-end-lt65536.true
          c.loop-i.invariant)
      | else-end-lt65536+then-end-lt-CODE_POINT_LIMIT w ↦ rw (w.units-is, w.singles-is)
          (counted_pair (slice_values c.args.ends) c.loop-i.i c.loop-i.units c.loop-i.singles c.from-end.result x w.if-end-lt65536.false
          w.if-end-lt-CODE_POINT_LIMIT.true c.loop-i.invariant)
      | else-end-lt65536+else-end-lt-CODE_POINT_LIMIT w ↦ rw (w.units-is, w.singles-is)
          (counted_limit (slice_values c.args.ends) c.loop-i.i c.loop-i.units c.loop-i.singles c.from-end.result x
          w.if-end-lt-CODE_POINT_LIMIT.false c.loop-i.invariant)
    ]

pub returns-clause-units : goal.returns-clause-units
returns-clause-units c = counted_units (slice_values c.args.ends) c.loop-i.i c.loop-i.units c.loop-i.singles (omega arith)
    c.loop-i.invariant

pub returns-clause-singles : goal.returns-clause-singles
returns-clause-singles c = counted_singles (slice_values c.args.ends) c.loop-i.i c.loop-i.units c.loop-i.singles (omega arith)
    c.loop-i.invariant

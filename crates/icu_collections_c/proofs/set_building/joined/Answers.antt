use Rattle.std.proofs.Common.{◌≡◌, arith, length}
use Rattle.icu_collections_c.specs.declared.set_building.Interval.{Interval}
use Rattle.icu_collections_c.proofs.SetMakingLemmas.{all_joined, joined_more, none_joined}
use Rattle.icu_collections_c.proofs.set_building.joined.Goals as goal

pub loop-range-init : goal.loop-range-init
loop-range-init c = rw c.new-ends.ensures.items (none_joined (λ (r : Interval). r) c.args.ranges.now)

pub loop-range-preserved : goal.loop-range-preserved
loop-range-preserved c =
    joined_more (λ (r : Interval). r) c.args.ranges.now c.loop-range.range-index _ c.loop-range.ends.items c.join.new.ends.items
    c.loop-range.invariant c.loop-range-test.true c.requires c.in_ok-join.ensures

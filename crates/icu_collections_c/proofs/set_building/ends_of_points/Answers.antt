-- The points are joined in ascending order, each as a range.
use Rattle.std.proofs.Common.{◌≡◌, arith, length, ℕ}
use Rattle.std.specs.List.Sorted.{IsNonDecreasingBy}
use Rattle.std.proofs.lemmas.List.Sorted.{IsNonDecreasingBy-from_sort}
use Rattle.icu_collections_c.proofs.SetMakingLemmas.{all_joined, holds_points, joined_more, none_joined, point_range}
use Rattle.icu_collections_c.proofs.set_building.ends_of_points.Goals as goal

pub loop-point-init : goal.loop-point-init
loop-point-init c = rw c.new-ends.ensures.items (none_joined point_range c.deref-point-items.result.now)

pub loop-point-preserved : goal.loop-point-preserved
loop-point-preserved c =
    let ascending : IsNonDecreasingBy (λ (p : ℕ). p) c.deref-point-items.result.now =
    rw c.deref-point-items.ensures.value (IsNonDecreasingBy-from_sort (λ p. p) _ c.sort_unstable.ensures.sorted) in
    joined_more point_range c.deref-point-items.result.now c.loop-point.point-index 0 c.loop-point.ends.items c.join.new.ends.items
    c.loop-point.invariant c.loop-point-test.true ascending c.in_ok-join.ensures

pub returns-clause-set : goal.returns-clause-set
returns-clause-set c =
    let all : c.loop-point.point-index ≡ length c.deref-point-items.result.now = omega arith in
    holds_points c.args.points.now c.loop-point.ends.items _
    (all_joined point_range c.deref-point-items.result.now c.args.points.now c.loop-point.ends.items
    (rw (c.deref-point-items.ensures.value, ← c.in_ok-sorted.ensures.items) c.sort_unstable.ensures.permutation)
    (rw all at c.loop-point.invariant))

-- The ranges are joined in the order of their first numbers.
use Rattle.std.proofs.Common.{rules}
use Rattle.std.specs.Vec.{vec_items}
use Rattle.std.proofs.lemmas.List.Sorted.{IsNonDecreasingBy-from_sort_by_key}
use Rattle.std.proofs.lemmas.Result.{IfOk-weaker}
use Rattle.icu_collections_c.proofs.SetMakingLemmas.{ascending_if_sorted, holds_moved}
use Rattle.icu_collections_c.proofs.set_building.ends_of_ranges.Goals as goal

pub joined-requires : goal.joined-requires
joined-requires c =
    ascending_if_sorted c.args.ranges.now c.is_sorted_by.result c.is_sorted_by.ensures.cases (λ a b q k. search rules)
    c.if-is_sorted_by.true

pub joined-requires-2 : goal.joined-requires-2
joined-requires-2 c =
    rw c.deref.ensures.value
    (IsNonDecreasingBy-from_sort_by_key (λ r. r.first) _ c.sort_unstable_by_key.ensures.sorted (λ a r q k. search rules))

pub returns-clause-set : goal.returns-clause-set
returns-clause-set c =
    IfOk-weaker c.joined-2.result _ _
    (λ ends. holds_moved c.args.ranges.now c.deref.result.now ends.items
    (rw (c.deref.ensures.value, ← c.in_ok-sorted.ensures.items) c.sort_unstable_by_key.ensures.permutation))
    c.joined-2.ensures.set

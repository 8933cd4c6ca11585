-- The boundaries ascend, so those that are at most the number come first.
use Rattle.std.proofs.Common.{arith, rules, ℕ, Bool}
use Rattle.std.specs.Prelude.{nat_le}
use Rattle.std.proofs.lemmas.List.Sorted.{IsPartitionPoint-from_clause, IsPartitionedBy-leb}
use Rattle.icu_frozen_sets.proofs.CallerLemmas.{IsNonDecreasingBy-strictly}
use Rattle.icu_collections_c.proofs.SetPlaceLemmas.{place_at_point, place_last}
use Rattle.icu_collections_c.proofs.sets.place_of.Goals as goal

pub returns-then-ends-count-clause-place : goal.returns-then-ends-count-clause-place
returns-then-ends-count-clause-place c = λ up. place_last c.args.ends.now c.args.c up (omega arith) (omega arith)

pub returns-else-ends-count-clause-place : goal.returns-else-ends-count-clause-place
returns-else-ends-count-clause-place c = λ up.
    let p : ℕ → Bool = λ e. nat_le e c.args.c in
    let parts = IsPartitionPoint-from_clause p c.args.ends.now c.partition_point.result c.partition_point.ensures.partitioned
    (IsPartitionedBy-leb (λ e. e) c.args.ends.now c.args.c (IsNonDecreasingBy-strictly c.args.ends.now up)) (search rules) in
    place_at_point c.args.ends.now c.args.c c.partition_point.result parts.0 parts.1 c.partition_point.ensures.bound

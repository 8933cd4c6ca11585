-- The search counts the boundaries that are not above the number.
use Rattle.std.proofs.Common.{◌≤◌, ap, arith, length, take, ℕ, Bool, List, rules, sym}
use Rattle.std.specs.Prelude.{nat_le}
use mathlib.Core.Bool.{beq}
use Rattle.std.proofs.lemmas.List.{length-take-le}
use Rattle.std.proofs.lemmas.List.Sorted.{IsPartitionedBy-leb, IsPartitionPoint-from_clause}
use Rattle.icu_frozen_sets.proofs.SpanConditionLemmas.{ascending_front, first_above, holds_at, last_below}
use Rattle.icu_frozen_sets.proofs.SetLemmas.{IsNonDecreasingBy-strictly}
use Rattle.icu_frozen_sets.proofs.span_condition.range_at.Goals as goal

pub returns-clause-range : goal.returns-clause-range
returns-clause-range c = λ valid d low high.
    let n : ℕ = c.partition_point-before.result in
    let few : n ≤ length c.args.ends.now = search rules in
    ap (λ (b : Bool). beq b c.args.held) (sym (holds_at c.args.ends.now n d valid.ascending few
    (λ some. omega (arith, low, c.boundary_before.ensures some)) (λ more. omega (arith, high, c.boundary_at.ensures more))))

pub returns-clause-here : goal.returns-clause-here
returns-clause-here c = λ valid.
    let ends : List ℕ = c.args.ends.now in
    let n : ℕ = c.partition_point-before.result in
    let most : ℕ = c.min-most.result in
    let inside : most ≤ length ends = omega (arith, c.min-most.ensures) in
    let p : ℕ → Bool = λ e. nat_le e c.args.c in
    let parts = IsPartitionPoint-from_clause p (take most ends) n c.partition_point-before.ensures.partitioned
    (IsPartitionedBy-leb (λ e. e) (take most ends) c.args.c
    (IsNonDecreasingBy-strictly (take most ends) (ascending_front ends most inside valid.ascending))) (search rules) in
    let bound : n ≤ most = omega (arith, c.partition_point-before.ensures.bound, length-take-le most ends inside) in
    let failed = rw (length-take-le most ends inside) at parts.1 in
    ap (λ (b : Bool). beq b c.args.held) (sym (holds_at ends n c.args.c valid.ascending (omega (arith, bound, inside))
    (last_below ends c.args.c most n valid.ascending inside (λ more. omega (arith, more, c.min-most.ensures)) bound parts.0 failed)
    (first_above ends c.args.c most n valid.ascending inside (λ more. omega (arith, more, c.min-most.ensures)) bound parts.0 failed)))

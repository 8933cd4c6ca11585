use Rattle.std.proofs.Common.{◌≡◌, ℕ, ◌<◌, ◌≤◌, Some}
use Rattle.ucptrie_tables.specs.Differences.{both_values}
use Rattle.ucptrie_tables.proofs.diff.end_of_values.Given as goal

-- the two values so far
abbrev pub invariant-loop-next : goal.invariant-loop-next
invariant-loop-next l = (u : ℕ) → l.c ≤ u → u < l.next → both_values l.first l.second u ≡ (Some l.values.0, Some l.values.1)

use Rattle.std.proofs.Common.{◌≡◌, ℕ, ◌<◌, ◌≤◌}
use Rattle.ucptrie_tables.specs.Joins.{row_at}
use Rattle.ucptrie_tables.proofs.join.end_of_values.Given as goal

-- the values so far
abbrev pub invariant-loop-next : goal.invariant-loop-next
invariant-loop-next l = (u : ℕ) → l.c ≤ u → u < l.next → row_at l.columns u ≡ row_at l.columns l.c

use Rattle.std.proofs.Common.{◌≡◌, length}
use Rattle.ucptrie_tables.specs.Joins.{row_at}
use Rattle.ucptrie_tables.proofs.join.have_same_values.Given as goal

abbrev pub decreases-loop-rest : goal.decreases-loop-rest
decreases-loop-rest l = length l.rest

-- the tables that are left decide
abbrev pub invariant-loop-rest : goal.invariant-loop-rest
invariant-loop-rest l = record {
  same : row_at l.rest l.first ≡ row_at l.rest l.second → row_at l.columns l.first ≡ row_at l.columns l.second;
  other : row_at l.columns l.first ≡ row_at l.columns l.second → row_at l.rest l.first ≡ row_at l.rest l.second;
}

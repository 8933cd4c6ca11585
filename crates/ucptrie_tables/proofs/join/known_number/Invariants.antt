use Rattle.std.proofs.Common.{◌≡◌, ◌≢◌, ℕ, ◌<◌, Some, slice_get}
use Rattle.ucptrie_tables.specs.Joins.{row_at}
use Rattle.ucptrie_tables.proofs.join.known_number.Given as goal

-- none of the code points so far has the combination
abbrev pub invariant-loop-number : goal.invariant-loop-number
invariant-loop-number l = (i f : ℕ) → i < l.number → slice_get l.firsts i ≡ Some f → row_at l.columns f ≢ row_at l.columns l.c

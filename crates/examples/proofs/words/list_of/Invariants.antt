use Rattle.std.proofs.Common.{◌≡◌, Ok, map}
use Rattle.examples.proofs.words.list_of.Given as goal

-- The items so far were not `Err`, and are the list.
abbrev pub invariant-loop-item : goal.invariant-loop-item
invariant-loop-item l = map Ok l.list.items ≡ l.yielded

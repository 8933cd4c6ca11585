use Rattle.std.proofs.Common.{◌≡◌, take}
use Rattle.ucptrie_tables.proofs.compare.equal_bytes.Given as goal

-- The bytes so far are equal.
abbrev pub invariant-loop-place : goal.invariant-loop-place
invariant-loop-place l = take l.place l.found ≡ take l.place l.wanted

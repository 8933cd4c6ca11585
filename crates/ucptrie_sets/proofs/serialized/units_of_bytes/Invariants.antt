use Rattle.std.proofs.Common.{◌≡◌, ◌++◌, length}
use Rattle.ucptrie_sets.specs.Sets.{units_in}
use Rattle.ucptrie_sets.proofs.serialized.units_of_bytes.Given as goal

-- the units so far, followed by those of the bytes that are left
abbrev pub invariant-loop-rest : goal.invariant-loop-rest
invariant-loop-rest l = l.units.items ++ units_in l.rest ≡ units_in l.bytes

abbrev pub decreases-loop-rest : goal.decreases-loop-rest
decreases-loop-rest l = length l.rest

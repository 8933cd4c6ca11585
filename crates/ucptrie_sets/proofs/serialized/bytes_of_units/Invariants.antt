use Rattle.std.proofs.Common.{◌≡◌, take}
use Rattle.ucptrie_sets.specs.Sets.{bytes_of_units}
use Rattle.ucptrie_sets.proofs.serialized.bytes_of_units.Given as goal

-- the bytes of the units so far
abbrev pub invariant-loop-unit : goal.invariant-loop-unit
invariant-loop-unit l = l.bytes.items ≡ bytes_of_units (take l.unit-index l.units)

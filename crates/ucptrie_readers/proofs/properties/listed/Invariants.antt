use Rattle.std.proofs.Common.{◌≡◌, ◌++◌, codes, length, map, string_bytes}
use Rattle.std.specs.Prelude.{flat_map}
use Rattle.ucptrie_readers.specs.Inside.ReadProperties.{as_read}
use Rattle.ucptrie_readers.specs.Properties.{listed, name_of}
use Rattle.ucptrie_readers.proofs.properties.listed.Given as goal

-- the names so far, and each name that is left after a comma
abbrev pub invariant-loop-rest : goal.invariant-loop-rest
invariant-loop-rest l = string_bytes l.names ++ flat_map (λ p. codes ", " ++ name_of p) (map as_read l.rest)
    ≡ listed (map as_read l.properties)

abbrev pub decreases-loop-rest : goal.decreases-loop-rest
decreases-loop-rest l = length l.rest

use Rattle.std.proofs.Common.{◌≡◌, length}
use Rattle.std.specs.Prelude.{fold}
use Rattle.ucd_files.specs.Inside.Groups.{mixed, name_hash}
use Rattle.ucd_files.specs.Names.{loose}
use Rattle.ucd_files.proofs.value_names.hash_of.Given as goal

abbrev pub invariant-loop-byte : goal.invariant-loop-byte
invariant-loop-byte l = fold mixed l.hash (loose l.rest) ≡ name_hash l.text

abbrev pub decreases-loop-byte : goal.decreases-loop-byte
decreases-loop-byte l = length l.rest

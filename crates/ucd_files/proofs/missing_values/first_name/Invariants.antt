use Rattle.std.proofs.Common.{◌≡◌, length}
use Rattle.ucd_files.specs.MissingValues.{first_name}
use Rattle.ucd_files.specs.Names.{pairs_of}
use Rattle.ucd_files.proofs.missing_values.first_name.Given as goal

abbrev pub invariant-loop-rest : goal.invariant-loop-rest
invariant-loop-rest l = first_name (pairs_of l.rest) ≡ first_name (pairs_of l.names)

abbrev pub decreases-loop-rest : goal.decreases-loop-rest
decreases-loop-rest l = length l.rest

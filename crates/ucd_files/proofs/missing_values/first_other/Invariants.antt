use Rattle.std.proofs.Common.{◌≡◌, length}
use Rattle.ucd_files.specs.MissingValues.{first_other}
use Rattle.ucd_files.specs.Names.{pairs_of}
use Rattle.ucd_files.proofs.missing_values.first_other.Given as goal

abbrev pub invariant-loop-rest : goal.invariant-loop-rest
invariant-loop-rest l =
    first_other (pairs_of l.rest) (pairs_of l.others) ≡ first_other (pairs_of l.names) (pairs_of l.others)

abbrev pub decreases-loop-rest : goal.decreases-loop-rest
decreases-loop-rest l = length l.rest

use Rattle.std.proofs.Common.{◌≡◌, ◌≤◌, length}
use Rattle.ucd_files.specs.Names.{loose}
use Rattle.ucd_files.proofs.names.first_significant.Given as goal

abbrev pub invariant-loop-rest : goal.invariant-loop-rest
invariant-loop-rest l =
    record {
      same : loose l.rest ≡ loose l.text;
      within : length l.rest ≤ length l.text;
    }

abbrev pub decreases-loop-rest : goal.decreases-loop-rest
decreases-loop-rest l = length l.rest

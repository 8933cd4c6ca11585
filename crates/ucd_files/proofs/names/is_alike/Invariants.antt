use Rattle.std.proofs.Common.{◌≡◌, length}
use Rattle.ucd_files.specs.Names.{is_alike}
use Rattle.ucd_files.proofs.names.is_alike.Given as goal

abbrev pub invariant-loop-byte : goal.invariant-loop-byte
invariant-loop-byte l = is_alike l.left_rest l.right_rest ≡ is_alike l.left l.right

abbrev pub decreases-loop-byte : goal.decreases-loop-byte
decreases-loop-byte l = length l.left_rest

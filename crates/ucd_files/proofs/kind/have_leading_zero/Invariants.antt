use Rattle.std.proofs.Common.{◌≡◌, length}
use Rattle.std.specs.List.{list_any}
use Rattle.std.specs.Str.Lines.{lines}
use Rattle.ucd_files.specs.Kinds.{has_leading_zero}
use Rattle.ucd_files.proofs.kind.have_leading_zero.Given as goal

abbrev pub invariant-loop-line : goal.invariant-loop-line
invariant-loop-line l =
    list_any (has_leading_zero l.columns) (lines l.rest) ≡ list_any (has_leading_zero l.columns) (lines l.input)

abbrev pub decreases-loop-line : goal.decreases-loop-line
decreases-loop-line l = length l.rest

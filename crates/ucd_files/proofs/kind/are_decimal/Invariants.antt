use Rattle.std.proofs.Common.{◌≡◌, length}
use Rattle.std.specs.List.{list_all}
use Rattle.std.specs.Str.Lines.{lines}
use Rattle.ucd_files.specs.Kinds.{has_decimal}
use Rattle.ucd_files.proofs.kind.are_decimal.Given as goal

abbrev pub invariant-loop-line : goal.invariant-loop-line
invariant-loop-line l = list_all (has_decimal l.columns) (lines l.rest) ≡ list_all (has_decimal l.columns) (lines l.input)

abbrev pub decreases-loop-line : goal.decreases-loop-line
decreases-loop-line l = length l.rest

use Rattle.std.proofs.Common.{◌≡◌, length}
use Rattle.std.specs.List.{list_any}
use Rattle.std.specs.Str.Lines.{lines}
use Rattle.ucd_files.specs.Kinds.{says_missing}
use Rattle.ucd_files.proofs.kind.has_missing_lines.Given as goal

abbrev pub invariant-loop-line : goal.invariant-loop-line
invariant-loop-line l =
    list_any (says_missing l.columns) (lines l.rest) ≡ list_any (says_missing l.columns) (lines l.input)

abbrev pub decreases-loop-line : goal.decreases-loop-line
decreases-loop-line l = length l.rest

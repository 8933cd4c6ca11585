use Rattle.std.proofs.Common.{◌≡◌, length}
use Rattle.std.specs.List.{list_any}
use Rattle.std.specs.Prelude.{is_some}
use Rattle.std.specs.Str.Lines.{lines}
use Rattle.ucd_files.specs.Fields.{missing_of}
use Rattle.ucd_files.specs.Kinds.{has_missing_line}
use Rattle.ucd_files.proofs.kind.has_missing_line.Given as goal

abbrev pub invariant-loop-line : goal.invariant-loop-line
invariant-loop-line l =
    list_any (λ line. is_some (missing_of line)) (lines l.rest) ≡ has_missing_line l.input

abbrev pub decreases-loop-line : goal.decreases-loop-line
decreases-loop-line l = length l.rest

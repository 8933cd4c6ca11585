use Rattle.std.proofs.Common.{◌≡◌, length, false}
use Rattle.std.specs.Str.Lines.{lines}
use Rattle.ucd_files.specs.ValueNames.{missing_from}
use Rattle.ucd_files.proofs.aliases.missing_alias.Given as goal

abbrev pub invariant-loop-line : goal.invariant-loop-line
invariant-loop-line l =
    missing_from l.property l.follows (lines l.rest) ≡ missing_from l.property false (lines l.input)

abbrev pub decreases-loop-line : goal.decreases-loop-line
decreases-loop-line l = length l.rest

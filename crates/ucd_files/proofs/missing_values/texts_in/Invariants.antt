use Rattle.std.proofs.Common.{◌≡◌, length}
use Rattle.std.specs.List.{filter, filter_map}
use Rattle.std.specs.Prelude.{is_some}
use Rattle.std.specs.Str.Lines.{lines}
use mathlib.Core.Bool.{beq}
use Rattle.ucd_files.specs.Fields.{missing_of}
use Rattle.ucd_files.specs.MissingValues.{texts_in}
use Rattle.ucd_files.specs.Names.{pairs_of}
use Rattle.ucd_files.specs.ValueNames.{names_after, text_of_line}
use Rattle.ucd_files.proofs.missing_values.texts_in.Given as goal

abbrev pub invariant-loop-line : goal.invariant-loop-line
invariant-loop-line l =
    names_after (pairs_of l.names) (filter_map (text_of_line l.columns)
    (filter (λ line. beq (is_some (missing_of line)) l.are_missing) (lines l.rest)))
    ≡ texts_in l.are_missing l.columns l.input

abbrev pub decreases-loop-line : goal.decreases-loop-line
decreases-loop-line l = length l.rest

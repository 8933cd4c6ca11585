use Rattle.std.proofs.Common.{◌≡◌, length}
use Rattle.std.specs.List.{filter_map}
use Rattle.std.specs.Str.Lines.{lines}
use Rattle.ucd_files.specs.Names.{pairs_of}
use Rattle.ucd_files.specs.ValueNames.{names_after, text_of_line}
use Rattle.ucd_files.proofs.order.names_in_order.Given as goal

abbrev pub invariant-loop-line : goal.invariant-loop-line
invariant-loop-line l =
    names_after (pairs_of l.names) (filter_map (text_of_line l.columns) (lines l.rest))
    ≡ names_after (pairs_of l.initial.names) (filter_map (text_of_line l.columns) (lines l.input))

abbrev pub decreases-loop-line : goal.decreases-loop-line
decreases-loop-line l = length l.rest

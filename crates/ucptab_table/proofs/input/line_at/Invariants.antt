use Rattle.std.proofs.Common.{◌≡◌, ◌<◌, ◌-◌, length, slice_get}
use Rattle.std.specs.Str.Lines.{lines}
use Rattle.ucptab_table.proofs.input.line_at.Given as goal

-- The requested line is still to be found among the other lines.
abbrev pub invariant-loop-line : goal.invariant-loop-line
invariant-loop-line l =
    record {
      left : 0 < l.number → 0 < l.left;
      same : 0 < l.number → slice_get (lines l.others) (l.left - 1) ≡ slice_get (lines l.input) (l.number - 1);
    }

abbrev pub decreases-loop-line : goal.decreases-loop-line
decreases-loop-line l = length l.others

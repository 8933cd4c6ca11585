use Rattle.std.proofs.Common.{◌≡◌, ◌≤◌, ◌+◌, length, take, drop}
use Rattle.std.specs.Prelude.{All}
use Rattle.std.specs.List.{filter_map}
use Rattle.std.specs.Str.Lines.{lines}
use Rattle.ucptab_table.specs.TableText.{IsFaultless, write_of}
use Rattle.ucptab_table.proofs.input.read_rows.Given as goal

abbrev pub invariant-loop-line : goal.invariant-loop-line
invariant-loop-line l =
    record {
      left : drop l.number (lines l.input) ≡ lines l.rest;
      room : l.number + length l.rest ≤ length l.input;
      faultless : All IsFaultless (take l.number (lines l.input));
      writes : l.writes.items ≡ filter_map write_of (take l.number (lines l.input));
    }

abbrev pub decreases-loop-line : goal.decreases-loop-line
decreases-loop-line l = length l.rest

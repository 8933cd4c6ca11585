use Rattle.std.proofs.Common.{◌≡◌, ◌≤◌, ◌+◌, ◌++◌, length, take, drop}
use Rattle.std.specs.Prelude.{All}
use Rattle.std.specs.List.{flat_map}
use Rattle.std.specs.Str.Lines.{lines}
use Rattle.ucptrie_tables.specs.Asked.{IsAsking}
use Rattle.ucptrie_tables.proofs.AskedLemmas.{numbers_of}
use Rattle.ucptrie_tables.proofs.asked.push_asked_lines.Given as goal

abbrev pub invariant-loop-line : goal.invariant-loop-line
invariant-loop-line l =
    record {
      left : drop l.number (lines l.text) ≡ lines l.rest;
      room : l.number + length l.rest ≤ length l.text;
      asking : All IsAsking (take l.number (lines l.text));
      numbers : l.asked.items ≡ l.initial.asked.items ++ flat_map numbers_of (take l.number (lines l.text));
    }

abbrev pub decreases-loop-line : goal.decreases-loop-line
decreases-loop-line l = length l.rest

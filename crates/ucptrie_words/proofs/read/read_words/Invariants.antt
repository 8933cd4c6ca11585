use Rattle.std.proofs.Common.{◌≡◌, ◌≤◌, ◌+◌, length, take, drop}
use Rattle.std.specs.Str.Lines.{lines}
use Rattle.ucptrie_words.specs.Words.{AreWords}
use Rattle.ucptrie_words.proofs.read.read_words.Given as goal

abbrev pub invariant-loop-line : goal.invariant-loop-line
invariant-loop-line l =
    record {
      left : drop l.number (lines l.input) ≡ lines l.rest;
      room : l.number + length l.rest ≤ length l.input;
      words : AreWords (take l.number (lines l.input)) l.builder;
    }

abbrev pub decreases-loop-line : goal.decreases-loop-line
decreases-loop-line l = length l.rest

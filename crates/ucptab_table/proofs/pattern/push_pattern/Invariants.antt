use Rattle.std.proofs.Common.{◌≡◌, ◌++◌, length, string_bytes}
use Rattle.std.specs.Str.{IsUtf8}
use Rattle.ucptab_table.specs.Patterns.{filled}
use Rattle.ucptab_table.proofs.pattern.push_pattern.Given as goal

-- the text so far and what is left give the whole, and what is left is text
abbrev pub invariant-loop-piece : goal.invariant-loop-piece
invariant-loop-piece l = record {
  whole : string_bytes l.text ++ filled l.name l.left l.rest ≡ string_bytes l.initial.text ++ filled l.name l.fn.numbers l.fn.pattern;
  utf8 : IsUtf8 l.rest;
}

abbrev pub decreases-loop-piece : goal.decreases-loop-piece
decreases-loop-piece l = length l.rest

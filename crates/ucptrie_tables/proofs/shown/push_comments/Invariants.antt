use Rattle.std.proofs.Common.{length, string_bytes}
use Rattle.std.specs.Str.{IsUtf8}
use Rattle.ucptrie_tables.specs.Shown.{AddsComments}
use Rattle.ucptrie_tables.proofs.shown.push_comments.Given as goal

-- the lines so far are comments at the end of the text, and what is left is text
abbrev pub invariant-loop-line : goal.invariant-loop-line
invariant-loop-line l = record {
  added : AddsComments (string_bytes l.initial.text) (string_bytes l.text);
  utf8 : IsUtf8 l.rest;
}

abbrev pub decreases-loop-line : goal.decreases-loop-line
decreases-loop-line l = length l.rest

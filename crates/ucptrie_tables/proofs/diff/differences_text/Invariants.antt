use Rattle.std.proofs.Common.{◌≡◌, take, string_bytes}
use Rattle.ucptrie_tables.specs.Differences.{difference_lines}
use Rattle.ucptrie_tables.proofs.diff.differences_text.Given as goal

-- the text has the lines of the ranges so far
abbrev pub invariant-loop-difference : goal.invariant-loop-difference
invariant-loop-difference l = string_bytes l.text ≡ difference_lines (take l.difference-index l.difference-items)

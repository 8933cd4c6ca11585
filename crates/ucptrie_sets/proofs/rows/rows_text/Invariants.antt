use Rattle.std.proofs.Common.{◌≡◌, ◌++◌, string_bytes}
use Rattle.ucptrie_sets.specs.Rows.{rows_of}
use Rattle.ucptrie_sets.proofs.rows.rows_text.Given as goal

-- the rows so far, followed by those of the ranges that are left
abbrev pub invariant-loop-range : goal.invariant-loop-range
invariant-loop-range l = string_bytes l.text ++ rows_of l.range-iterator ≡ rows_of l.set

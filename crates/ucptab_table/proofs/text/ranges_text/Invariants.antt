use Rattle.std.proofs.Common.{◌≡◌, map, string_bytes}
use Rattle.ucptab_table.specs.TableText.{runs_text}
use Rattle.ucptab_table.specs.Inside.Ranges.{run_of_values}
use Rattle.ucptab_table.proofs.text.ranges_text.Given as goal

-- the text has the lines of the ranges so far
abbrev pub invariant-loop-range : goal.invariant-loop-range
invariant-loop-range l = string_bytes l.text ≡ runs_text (map run_of_values l.yielded)

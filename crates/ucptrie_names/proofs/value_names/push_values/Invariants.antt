use Rattle.std.proofs.Common.{◌≡◌, ◌++◌, take, string_bytes}
use Rattle.ucptab_table.specs.Patterns.{named}
use Rattle.ucptrie_names.specs.NamesSource.{value_lines}
use Rattle.ucptrie_names.proofs.value_names.push_values.Given as goal

-- the text has the lines so far
abbrev pub invariant-loop-value : goal.invariant-loop-value
invariant-loop-value l =
    string_bytes l.text ≡ string_bytes l.initial.text ++ value_lines (named l.table l.start) (take l.value-index l.values)

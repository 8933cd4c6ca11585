use Rattle.std.proofs.Common.{◌≡◌, ◌++◌}
use Rattle.ucptrie_names.specs.NamesList.{lines_of, names_list}
use Rattle.ucptrie_names.proofs.names_list.names_list.Given as goal

-- The lines so far, with those of the entries that are left, are all lines.
abbrev pub invariant-loop-number : goal.invariant-loop-number
invariant-loop-number l = l.lines.items ++ lines_of l.number-iterator ≡ names_list l.names

use Rattle.std.proofs.Common.{◌≡◌, ◌++◌, [], drop, string_bytes}
use Rattle.ucptrie_names.specs.JoinSource.{cells_text}
use Rattle.ucptrie_tables.specs.Source.{cells_from}
use Rattle.ucptrie_names.proofs.join_source.push_cells.Given as goal

-- the text so far and the cells that are left give the whole
abbrev pub invariant-loop-i : goal.invariant-loop-i
invariant-loop-i l = string_bytes l.text ++ cells_from [] l.i (drop l.i l.numbers)
    ≡ string_bytes l.initial.text ++ cells_text l.numbers

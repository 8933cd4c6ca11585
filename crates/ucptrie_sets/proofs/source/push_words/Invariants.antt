use Rattle.std.proofs.Common.{◌≡◌, ◌++◌, drop, string_bytes}
use Rattle.ucptrie_sets.specs.SetSource.{cells_from}
use Rattle.ucptrie_sets.proofs.source.push_words.Given as goal

-- the text so far and the cells that are left give the whole
abbrev pub invariant-loop-i : goal.invariant-loop-i
invariant-loop-i l =
    string_bytes l.text ++ cells_from l.i (drop l.i l.words) ≡ string_bytes l.initial.text ++ cells_from 0 l.words

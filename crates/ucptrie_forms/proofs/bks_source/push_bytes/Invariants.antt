use Rattle.std.proofs.Common.{◌≡◌, ◌++◌, [], drop, string_bytes}
use Rattle.ucptrie_tables.specs.Source.{cells_from}
use Rattle.ucptrie_forms.proofs.bks_source.push_bytes.Given as goal

-- the text so far and the bytes that are left give the whole
abbrev pub invariant-loop-i : goal.invariant-loop-i
invariant-loop-i l =
    string_bytes l.text ++ cells_from [] l.i (drop l.i l.bytes) ≡ string_bytes l.initial.text ++ cells_from [] 0 l.bytes

use Rattle.icu_zerovec.specs.Slice.{slice_values}
use Rattle.std.proofs.Common.{take, drop}
use Rattle.icu_char16trie.specs.Inside.Opening.{SpellsOn}
use Rattle.icu_char16trie.proofs.spelling.Spelling.push_run.Given as goal

-- The units so far are spelled.
abbrev pub invariant-loop-i : goal.invariant-loop-i
invariant-loop-i l = SpellsOn l.initial.self (take l.i (drop l.place (slice_values l.units))) l.self

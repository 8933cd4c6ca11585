use Rattle.std.specs.Char.Escape.{encode_utf16}
use Rattle.std.specs.List.{flat_map}
use Rattle.icu_char16trie.specs.Passed.{Passes}
use Rattle.icu_char16trie.proofs.write.Char16TrieCursorWrite.write_str.Given as goal

-- The cursor has passed the units of the characters so far.
abbrev pub invariant-loop-c : goal.invariant-loop-c
invariant-loop-c l = Passes l.initial.self (flat_map encode_utf16 l.yielded) l.self

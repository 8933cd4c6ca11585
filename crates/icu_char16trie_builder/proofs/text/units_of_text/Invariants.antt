use Rattle.std.proofs.Common.{◌≡◌}
use Rattle.std.specs.Char.Escape.{encode_utf16}
use Rattle.std.specs.List.{flat_map}
use Rattle.icu_char16trie_builder.proofs.text.units_of_text.Given as goal

-- The units of the characters so far.
abbrev pub invariant-loop-c : goal.invariant-loop-c
invariant-loop-c l = l.units.items ≡ flat_map encode_utf16 l.yielded

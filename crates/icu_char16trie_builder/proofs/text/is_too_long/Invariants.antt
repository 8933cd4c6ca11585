use Rattle.std.proofs.Common.{◌≡◌, ◌≤◌, length}
use Rattle.std.specs.Char.Escape.{encode_utf16}
use Rattle.std.specs.List.{flat_map}
use Rattle.icu_char16trie_builder.proofs.text.is_too_long.Given as goal

-- The units of the characters so far are counted, and there are not too many.
abbrev pub invariant-loop-c : goal.invariant-loop-c
invariant-loop-c l = record {
  counted : l.count ≡ length (flat_map encode_utf16 l.yielded);
  few : l.count ≤ 65535;
}

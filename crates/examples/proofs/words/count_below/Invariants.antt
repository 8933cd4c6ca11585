use Rattle.std.proofs.Common.{◌≡◌, ◌+◌, length}
use Rattle.std.specs.Char.Escape.{encode_utf16}
use Rattle.std.specs.List.{flat_map}
use Rattle.std.specs.Str.{chars}
use Rattle.icu_collections.specs.Char16Trie.{AreToCome, IsTrieOf, UnitMap, after_all, entries_work}
use Rattle.examples.proofs.words.count_below.Given as goal

-- The words so far and those still to come are as many as those that start with the prefix.
abbrev pub invariant-loop-words : goal.invariant-loop-words
invariant-loop-words l = (m : UnitMap) → IsTrieOf l.fn.trie m
    → (rest : UnitMap) × AreToCome l.words rest
    × (l.count + length rest ≡ length (after_all (flat_map encode_utf16 (chars l.fn.prefix)) m))

abbrev pub decreases-loop-words : goal.decreases-loop-words
decreases-loop-words l = entries_work l.words

use Rattle.std.proofs.Common.{List, Ok, ◌++◌, map, String, ℤ}
use Rattle.std.specs.Char.Escape.{encode_utf16}
use Rattle.std.specs.Global.{Global}
use Rattle.std.specs.List.{flat_map}
use Rattle.std.specs.Str.{chars}
use Rattle.icu_collections.specs.Char16Trie.{AreEntries, AreToCome, IsTrieOf, UnitMap, after_all, entries_work}
use Rattle.examples.proofs.words.completions.Given as goal

-- The words so far, followed by those still to come, are those that start with the prefix.
abbrev pub invariant-loop-list : goal.invariant-loop-list
invariant-loop-list l = (m : UnitMap) → IsTrieOf l.fn.trie m
    → (rest : UnitMap) × AreToCome l.entries rest
    × ((ys : List (String Global × ℤ)) → AreEntries (map Ok ys) rest
    → AreEntries (map Ok (l.list.items ++ ys)) (after_all (flat_map encode_utf16 (chars l.fn.prefix)) m))

abbrev pub decreases-loop-list : goal.decreases-loop-list
decreases-loop-list l = entries_work l.entries

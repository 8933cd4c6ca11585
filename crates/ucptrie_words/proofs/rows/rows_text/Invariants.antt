use Rattle.std.proofs.Common.{◌≡◌, List, ℕ, ◌++◌}
use Rattle.std.specs.Prelude.{string_bytes}
use Rattle.icu_char16trie.specs.Grammar.{IsTrieOf}
use Rattle.icu_char16trie.specs.Listing.{AreToCome, entries_work}
use Rattle.icu_char16trie.specs.UnitMap.{UnitMap}
use Rattle.ucptrie_words.specs.Rows.{AreRowsOf, first_without_row}
use Rattle.ucptrie_words.proofs.rows.rows_text.Given as goal

-- The text so far, followed by the lines of the entries to come, has the lines of all entries. The first
-- key that no line can have is one of those to come.
abbrev pub invariant-loop-entries : goal.invariant-loop-entries
invariant-loop-entries l = (m : UnitMap) → IsTrieOf l.fn.trie m
    → (rest : UnitMap) × AreToCome l.entries rest
    × ((more : List ℕ) → AreRowsOf rest more → AreRowsOf m (string_bytes l.text ++ more))
    × (first_without_row m ≡ first_without_row rest)

abbrev pub decreases-loop-entries : goal.decreases-loop-entries
decreases-loop-entries l = entries_work l.entries

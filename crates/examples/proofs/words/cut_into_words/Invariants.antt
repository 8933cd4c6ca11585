use Rattle.std.proofs.Common.{ℕ, ◌≤◌, List, ◌++◌, length}
use Rattle.icu_collections.specs.Char16Trie.{IsTrieOf, UnitMap}
use Rattle.examples.specs.Pieces.{AreWords}
use Rattle.examples.proofs.words.cut_into_words.Given as goal

-- The words so far, followed by those of the rest, are those of the text.
abbrev pub invariant-loop-rest : goal.invariant-loop-rest
invariant-loop-rest l = record {
  within : length l.rest ≤ length l.fn.text;
  words : (m : UnitMap) → IsTrieOf l.fn.dictionary m → (more : List ℕ)
      → AreWords m l.rest more → AreWords m l.fn.text (l.lengths.items ++ more);
}

abbrev pub decreases-loop-rest : goal.decreases-loop-rest
decreases-loop-rest l = length l.rest

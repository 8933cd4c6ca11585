-- Values of a trie along a text, with the offsets of its characters.
use Rattle.std.specs.Prelude.{◌≡◌, ℕ, ◌+◌, List, [], ◌∷◌, map, Option, Some}
use Rattle.std.specs.Char.{len_utf8}
use Rattle.std.specs.List.{All}
use Rattle.std.specs.Iterator.{YieldsFirstBy}
use Rattle.icu_trie.specs.Parts.{Parts, trie_value}

-- Characters in order, each with the byte offset at which it starts in UTF-8. The first one is at
-- `from`.
abbrev pub with_offsets : ℕ → List ℕ → List (ℕ × ℕ)
with_offsets from [] = []
with_offsets from (c ∷ cs) = (from, c) ∷ with_offsets (from + len_utf8 c) cs

module _ {T : Type 0} where
  -- Characters in order, each with its byte offset and its value in the trie. The first one is at
  -- `from`.
  abbrev pub with_indices : Parts T → ℕ → List ℕ → List (ℕ × ℕ × Option T)
  with_indices trie from cs = map (λ at. (at.0, at.1, trie_value trie at.1)) (with_offsets from cs)

  -- An offset, a character and a value, as an item of that list.
  abbrev pub index_item : ℕ × ℕ × T → ℕ × ℕ × Option T
  index_item item = (item.0, item.1, Some item.2)

  -- The contract of one call of `next`: it returns the first of what is left, and what follows is
  -- then left. If nothing is left it returns None, and nothing is left.
  abbrev pub GivesIndex : List (ℕ × ℕ × Option T) → Option (ℕ × ℕ × T) → List (ℕ × ℕ × Option T)
      → Type 0
  GivesIndex = YieldsFirstBy index_item (λ left. left)

  -- The items are the characters in order, each with its byte offset and its value.
  pub record AreIndicesOf (trie : Parts T) (cs : List ℕ) (items : List (ℕ × ℕ × T)) : Type 0 where
    pub offsets : map (λ item. (item.0, item.1)) items ≡ with_offsets 0 cs
    pub values : All (λ item. trie_value trie item.1 ≡ Some item.2) items

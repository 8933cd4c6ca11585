-- Values of a trie along code points.
use Rattle.std.specs.Prelude.{◌≡◌, ℕ, List, map, Option, Some}
use Rattle.std.specs.List.{All}
use Rattle.std.specs.Iterator.{YieldsFirstBy}
use Rattle.icu_trie.specs.Parts.{Parts, trie_value}

module _ {T : Type 0} where
  -- Code points in order, each with its value in the trie.
  abbrev pub with_values : Parts T → List ℕ → List (ℕ × Option T)
  with_values trie cs = map (λ c. (c, trie_value trie c)) cs

  -- A code point and a value, as an item of that list.
  abbrev pub value_item : ℕ × T → ℕ × Option T
  value_item item = (item.0, Some item.1)

  -- The contract of one call of `next`: it returns the first of what is left, and what follows is
  -- then left. If nothing is left it returns None, and nothing is left.
  abbrev pub GivesValue : List (ℕ × Option T) → Option (ℕ × T) → List (ℕ × Option T) → Type 0
  GivesValue = YieldsFirstBy value_item (λ left. left)

  -- The items are the code points in order, each with its value.
  pub record AreValuesOf (trie : Parts T) (cs : List ℕ) (items : List (ℕ × T)) : Type 0 where
    pub code_points : map (λ item. item.0) items ≡ cs
    pub values : All (λ item. trie_value trie item.0 ≡ Some item.1) items

-- Values of a trie along bytes that may be ill-formed UTF-8.
use Rattle.std.specs.Prelude.{◌≡◌, ℕ, List, [], ◌∷◌, drop, Option, Some, None, MatchOption}
use Rattle.std.specs.Option.{unwrap_or}
use Rattle.icu_trie.specs.Parts.{Parts, last_cell, trie_value}
use Rattle.icu_utf.specs.Utf8.{IsFirstPart}

-- A trie, and the bytes that are left.
pub record BytesToValue (T : Type 0) : Type 0 where
  pub trie : Parts T
  pub bytes : List ℕ

module _ {T : Type 0} where
  -- The value of a part: that of its character, or the error value if it is ill-formed.
  abbrev pub part_value : Parts T → Option ℕ → Option T
  part_value trie (Some c) = trie_value trie c
  part_value trie None = last_cell trie.values

  -- The first `size` bytes are a part. The item is its character, or U+FFFD if it is ill-formed,
  -- and its value.
  pub record IsFirstItem (trie : Parts T) (bytes : List ℕ) (item : ℕ × T) (size : ℕ) : Type 0 where
    pub part : Option ℕ
    pub stands : IsFirstPart bytes part size
    pub character : item.0 ≡ unwrap_or part 0xFFFD
    pub value : part_value trie part ≡ Some item.1

  -- The contract of one call of `next`: it returns the item of the first part of what is left, and
  -- what follows that part is then left. If nothing is left it returns None, and nothing is left.
  pub record GivesPart (old : BytesToValue T) (given : Option (ℕ × T)) (new : BytesToValue T)
      : Type 0 where
    pub trie : new.trie ≡ old.trie
    pub steps : MatchOption given ((old.bytes ≡ []) × (new.bytes ≡ []))
        (λ item. (size : ℕ) × IsFirstItem old.trie old.bytes item size
        × (new.bytes ≡ drop size old.bytes))

  -- The items are those of the parts of the bytes. Each part starts where the one before it ends,
  -- and the last one ends the bytes.
  abbrev pub AreValuesOfBytes : Parts T → List ℕ → List (ℕ × T) → Type 0
  AreValuesOfBytes trie bytes [] = bytes ≡ []
  AreValuesOfBytes trie bytes (item ∷ items) =
      (size : ℕ) × IsFirstItem trie bytes item size × AreValuesOfBytes trie (drop size bytes) items

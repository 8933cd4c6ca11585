-- Values along bytes that may be ill-formed UTF-8, as copied to a buffer.
use Rattle.std.specs.Prelude.{◌≡◌, ℕ, ◌+◌, ◌≤◌, ◌⊎◌, List, [], ◌∷◌, ◌++◌, length, map, drop}
use Rattle.icu_trie.specs.Parts.{Parts}
use Rattle.icu_trie_text.specs.Utf8Values.{IsFirstItem}
use Rattle.icu_trie_text.specs.declared.copy_parts.Copied.{Copied}

module _ {T : Type 0} where
  -- The items are those of the first parts of the bytes, and these parts take `size` bytes in all.
  -- Each part starts where the one before it ends.
  abbrev pub AreFirstValues : Parts T → List ℕ → List (ℕ × T) → ℕ → Type 0
  AreFirstValues trie bytes [] size = size ≡ 0
  AreFirstValues trie bytes (item ∷ items) size =
      (n : ℕ) × (rest : ℕ) × IsFirstItem trie bytes item n
      × AreFirstValues trie (drop n bytes) items rest × (size ≡ n + rest)

  -- The buffer `new` starts with the values of the first parts of the bytes, and the rest of it is
  -- as in `old`. There are `copied.values` of them, and their parts take `copied.bytes` bytes, so
  -- both numbers are in bounds. It stopped because the buffer is full or because the bytes end.
  pub record IsCopied (trie : Parts T) (bytes : List ℕ) (old new : List T) (copied : Copied)
      : Type 0 where
    pub items : List (ℕ × T)
    pub parts : AreFirstValues trie bytes items copied.bytes
    pub count : copied.values ≡ length items
    pub fits : copied.values ≤ length old
    pub within : copied.bytes ≤ length bytes
    pub buffer : new ≡ map (λ item. item.1) items ++ drop (length items) old
    pub stops : (copied.values ≡ length old) ⊎ (copied.bytes ≡ length bytes)

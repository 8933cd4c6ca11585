-- The values of bytes that may be ill-formed UTF-8.
use Rattle.std.specs.Prelude.{◌≡◌, ℕ, List, map}
use Rattle.icu_collections.specs.CodePointTrie.{Parts}
use Rattle.icu_collections.specs.CodePointTrieText.{AreValuesOfBytes}

-- The values are those of the parts of the bytes, in order, up to the end of the bytes.
abbrev pub AreAllValues : Parts ℕ → List ℕ → List ℕ → Type 0
AreAllValues trie bytes values =
    (items : List (ℕ × ℕ)) × AreValuesOfBytes trie bytes items
    × (values ≡ map (λ item. item.1) items)

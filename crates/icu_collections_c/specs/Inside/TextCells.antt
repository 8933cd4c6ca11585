-- A trie in bytes whose fields were read once, for all characters of a text.
use Rattle.std.specs.Prelude.{ℕ, List, Option}
use Rattle.icu_zerovec.specs.Cells.{values_of}
use Rattle.icu_trie_core.specs.declared.header.CodePointTrieHeader.{CodePointTrieHeader}
use Rattle.icu_trie.specs.Parts.{Parts}
use Rattle.icu_collections_c.specs.BytesTrie.{cells_of}

-- The trie with this header whose cells are in these bytes. Its values are read by `unpack` from
-- `width` bytes each.
abbrev pub parts_from : {T : Type 0} → (List ℕ → Option T) → ℕ → CodePointTrieHeader → List ℕ
    → List ℕ → Parts T
parts_from unpack width header index values = record {
  header = header;
  index = cells_of 2 index;
  values = values_of unpack width values;
}

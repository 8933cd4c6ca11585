-- A trie of code points as C sees it: the bytes of its index and of its data, and the fields of its
-- header.
use Rattle.std.specs.Prelude.{◌≡◌, ℕ, ◌^◌, ◌*◌, ◌%◌, nat_eq, List, length, Some, None, Option, unwrap_or, if◌then◌else◌}
use Rattle.icu_zerovec.specs.Cells.{values_of}
use Rattle.icu_zerovec.specs.PackedBytes.{number_of}
use Rattle.icu_trie_core.specs.ValueNumbers.{fitting}
use Rattle.icu_trie_core.specs.declared.header.TrieType.{TrieType}
use Rattle.icu_trie_core.specs.declared.header.TrieType.TheVariants.{Fast, Small}
use Rattle.icu_trie_core.specs.declared.header.CodePointTrieHeader.{CodePointTrieHeader}
use Rattle.icu_trie.specs.Parts.{Parts, parts_fault, trie_value}
use Rattle.icu_collections_c.specs.declared.tries.Trie.{Trie}

-- The numbers in the whole cells of the bytes. Each cell has `width` bytes, the low byte first.
abbrev pub cells_of : ℕ → List ℕ → List ℕ
cells_of width bytes = values_of (λ cell. Some (number_of width cell)) width bytes

-- The type that has this fast limit. Any limit other than 0x1000 stands for a fast trie.
abbrev pub type_of : ℕ → TrieType
type_of limit = if nat_eq limit 0x1000 then Small else Fast

-- The header that the fields describe.
abbrev pub header_of : Trie → CodePointTrieHeader
header_of trie = record {
  high_start = trie.high_start;
  shifted12_high_start = trie.shifted12_high_start;
  index3_null_offset = trie.index3_null_offset;
  data_null_offset = trie.data_null_offset;
  null_value = trie.null_value;
  trie_type = type_of trie.fast_limit;
}

-- The trie whose values are read by `unpack` from `width` bytes each.
abbrev pub parts_in : {T : Type 0} → (List ℕ → Option T) → ℕ → Trie → Parts T
parts_in unpack width trie = record {
  header = header_of trie;
  index = cells_of 2 trie.index.now;
  values = values_of unpack width trie.values.now;
}

-- The trie whose values are unsigned numbers of `width` bytes.
abbrev pub parts_of : ℕ → Trie → Parts ℕ
parts_of width trie = parts_in (λ cell. Some (number_of width cell)) width trie

-- The value of c in a trie of such numbers: the one that the format gives it, or else the last
-- cell. It is 0 if there is no cell at all.
abbrev pub value_at : ℕ → Trie → ℕ → ℕ
value_at width trie c = unwrap_or (trie_value (parts_of width trie) c) 0

-- How many bytes a value takes. Any `width` other than 1 and 2 counts as 4.
abbrev pub value_width : ℕ → ℕ
value_width width = if nat_eq width 1 then 1 else (if nat_eq width 2 then 2 else 4)

-- The unsigned value of `width` bytes that has this number: the number itself, if it fits.
abbrev pub fitting_in : ℕ → ℕ → Option ℕ
fitting_in width = fitting (2 ^ (8 * width))

-- No trie: it has no cells, and all its numbers are 0.
pub record IsNoTrie (trie : Trie) : Type 0 where
  pub index : length trie.index.now ≡ 0
  pub values : length trie.values.now ≡ 0
  pub size : trie.size ≡ 0
  pub limit : trie.fast_limit ≡ 0
  pub high_start : trie.high_start ≡ 0
  pub null_value : trie.null_value ≡ 0
  pub data_null_offset : trie.data_null_offset ≡ 0
  pub width : trie.width ≡ 0
  pub index3_null_offset : trie.index3_null_offset ≡ 0
  pub shifted12_high_start : trie.shifted12_high_start ≡ 0

-- The bytes are whole cells, and the cells are those of a trie: there is data, the fast index is
-- whole, and each block that it names is inside the data.
pub record IsSound {T : Type 0} (of_number : ℕ → Option T) (unpack : List ℕ → Option T)
    (width : ℕ) (trie : Trie) : Type 0 where
  pub index : length trie.index.now % 2 ≡ 0
  pub values : length trie.values.now % width ≡ 0
  pub parts : parts_fault of_number (header_of trie) (cells_of 2 trie.index.now)
      (values_of unpack width trie.values.now) ≡ None

-- The same for unsigned numbers of `width` bytes.
abbrev pub IsSoundOf : ℕ → Trie → Type 0
IsSoundOf width trie =
    IsSound (fitting_in width) (λ cell. Some (number_of width cell)) width trie

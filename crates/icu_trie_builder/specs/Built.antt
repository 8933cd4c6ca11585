-- What a trie that was built from a map is.
use Rattle.std.specs.Prelude.{◌≡◌, ℕ, ◌+◌, ◌/◌, ◌%◌, ◌<◌, ◌≤◌, ◌⊎◌, List, Option, Some, All, length}
use Rattle.icu_zerovec.specs.CodePoints.{code_point_limit}
use Rattle.icu_trie_core.specs.Contents.{contents_of}
use Rattle.icu_trie_core.specs.declared.header.CodePointTrieHeader.{CodePointTrieHeader}
use Rattle.icu_trie_core.specs.declared.header.TrieType.{TrieType}
use Rattle.icu_trie_core.specs.Coherence.{IsCoherent, IsShared}
use Rattle.icu_trie.specs.Parts.{Parts, last_cell}
use Rattle.icu_trie_builder.specs.Bounds.{data_bound, compact_data_bound, index_bound, short_index_bound}
use Rattle.icu_trie_builder.specs.MapAnswers.{AnswersMap, HasRangesOf}
use Rattle.icu_trie_builder.specs.NullBlock.{HasDefaultNull, NamesNoNull, NamesNull, NamesNullIndex}

-- The high start is a multiple of 512 and at most 0x110000. `shifted12_high_start` is the high
-- start shifted right by 12 bits, rounded up.
pub record IsBuiltHeader (h : CodePointTrieHeader) : Type 0 where
  pub aligned : h.high_start % 512 ≡ 0
  pub within : h.high_start ≤ code_point_limit
  pub shifted : h.shifted12_high_start ≡ (h.high_start + 0xfff) / 0x1000

-- The value is that of a code point of the map, or the error value, which is the last cell.
abbrev pub IsDrawnFrom : {T : Type 0} → (ℕ → Option T) → (ℕ → ℕ) → List T → T → Type 0
IsDrawnFrom of_number f values v =
    ((c : ℕ) × (c < code_point_limit) × (of_number (f c) ≡ Some v)) ⊎ (last_cell values ≡ Some v)

-- The trie t is well built from a map whose values have the numbers f. of_number gives the value
-- with a number.
pub record IsWellBuilt {T : Type 0} (of_number : ℕ → Option T) (f : ℕ → ℕ) (t : Parts T)
    : Type 0 where
  -- The header is valid.
  pub header : IsBuiltHeader t.header
  -- A walk may trust the null offsets and the high start.
  pub coherent : IsCoherent of_number t.header (contents_of t.index t.values)
  -- Equal blocks have the same offset or index-2 cell, so that walks are short.
  pub shared : IsShared t.header (contents_of t.index t.values)
  -- Each data cell is the value of a code point, or the error value.
  pub drawn : All (IsDrawnFrom of_number f t.values) t.values
  -- The number of cells is bounded by the distinct blocks of the map.
  pub data_cells : length t.values ≤ data_bound t.header.trie_type f
  pub index_cells : length t.index ≤ index_bound t.header.trie_type f
  -- Small blocks that occur in fast ones need no cells.
  pub compact_data : length t.values ≤ compact_data_bound t.header.trie_type f
  -- If there is a block of one value, the null data offset is the offset of such a block.
  pub null_block : NamesNull t.header t.index f
  -- If there is none, the null data offset is 0xfffff.
  pub no_null_block : NamesNoNull t.header f
  -- Blocks of 512 that consist of null blocks have the null index-3 offset.
  pub null_index : NamesNullIndex t.header t.index
  -- If the bound on the data is at most 0x10000 cells, the index needs no 18-bit offsets.
  pub tight : compact_data_bound t.header.trie_type f ≤ 0x10000
      → length t.index ≤ short_index_bound t.header.trie_type f

-- The trie t is built from the map f, with this default, this error value and of this type.
-- `number` gives the number of a value, and of_number the value with a number.
pub record IsBuiltFrom {T : Type 0} (number : T → ℕ) (of_number : ℕ → Option T) (f : ℕ → T)
    (default error : T) (kind : TrieType) (t : Parts T) : Type 0 where
  -- It has the map's values.
  pub answers : AnswersMap f error t
  -- It has the map's ranges and value sets.
  pub ranges : HasRangesOf f t
  pub trie_type : t.header.trie_type ≡ kind
  -- The null value is that of the null block, or the default if there is none.
  pub null_value : HasDefaultNull (number default) t.header (λ c. number (f c))
  -- It is coherent, and its size is bounded.
  pub built : IsWellBuilt of_number (λ c. number (f c)) t

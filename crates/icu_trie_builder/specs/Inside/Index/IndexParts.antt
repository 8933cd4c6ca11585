-- The parts of the index, as they are put together.
use Rattle.std.specs.Prelude.{◌≡◌, ℕ, ◌+◌, ◌-◌, ◌*◌, ◌/◌, ◌%◌, ◌<◌, ◌≤◌, ◌⊎◌, nat_eq, List, length, map, take, slice_index, if◌then◌else◌}
use Rattle.std.specs.List.{range_with_len}
use Rattle.std.specs.Int.{div_ceil}
use Rattle.icu_trie_core.specs.declared.header.TrieType.{TrieType}
use Rattle.icu_trie_builder.specs.Inside.Index.Layout.{AllBelow, GivesSmall, IsNullBlock}

-- new is old with the n cells f 0, .., f (n - 1) appended.
pub record IsGrown (n : ℕ) (f : ℕ → ℕ) (old new : List ℕ) : Type 0 where
  pub len : length new ≡ length old + n
  pub kept : (i : ℕ) → i < length old → slice_index new i ≡ slice_index old i
  pub more : (j : ℕ) → j < n → slice_index new (length old + j) ≡ f j

-- The cell with bits 16 and 17 of the eight offsets from position `at` on. The first offset's bits
-- are at the top.
unfoldable pub high_bits : List ℕ → ℕ → ℕ
high_bits xs at = slice_index xs at / 0x10000 * 0x4000 + slice_index xs (at + 1) / 0x10000 * 0x1000
    + slice_index xs (at + 2) / 0x10000 * 0x400 + slice_index xs (at + 3) / 0x10000 * 0x100
    + slice_index xs (at + 4) / 0x10000 * 0x40 + slice_index xs (at + 5) / 0x10000 * 0x10
    + slice_index xs (at + 6) / 0x10000 * 4 + slice_index xs (at + 7) / 0x10000

-- Cell number i of offsets in the 18-bit form, which uses nine cells for eight offsets: the first
-- has their bits 16 and 17, the others have their low 16 bits.
unfoldable pub packed_cell : List ℕ → ℕ → ℕ
packed_cell xs i =
    if nat_eq (i % 9) 0 then high_bits xs (8 * (i / 9))
    else slice_index xs (8 * (i / 9) + i % 9 - 1) % 0x10000

-- The offsets in the 18-bit form.
unfoldable pub packed_cells : List ℕ → List ℕ
packed_cells xs = map (packed_cell xs) (range_with_len 0 (9 * (length xs / 8)))

-- The index consists of the fast index, which is `old`, and then index-1, index-3 and index-2.
pub record IsUpper (t : TrieType) (high : ℕ) (small old index : List ℕ) : Type 0 where
  pub kept : (i : ℕ) → i < length old → slice_index index i ≡ slice_index old i
  pub longer : length old ≤ length index
  pub gives : GivesSmall t high small index

-- The index-2 cells are in `stored`, in blocks of 32 cells at these positions. The last block may
-- be shorter.
abbrev pub Index2At : List ℕ → List ℕ → List ℕ → Type 0
Index2At cells stored places = (j q : ℕ) → q < 32 → 32 * j + q < length cells
    → (slice_index places j + q < length stored)
    × (slice_index stored (slice_index places j + q) ≡ slice_index cells (32 * j + q))

-- The index-2 cells are placed in blocks of 32 at these positions.
pub record IsIndex2 (cells before after places : List ℕ) : Type 0 where
  pub count : length places ≡ div_ceil (length cells) 32
  pub kept : take (length before) after ≡ before
  pub placed : Index2At cells after places
  pub short : length after ≤ length before + length cells
  pub fit : AllBelow 0x10000 after

-- `cell` is the value of f for some block whose 32 offsets all are `null`, or 0x7fff if there is
-- none.
unfoldable pub IsNullCell : ℕ → List ℕ → (ℕ → ℕ) → ℕ → Type 0
IsNullCell null small f cell = ((w : ℕ) × (w < length small / 32) × IsNullBlock null small w
    × (cell ≡ f w))
    ⊎ ((cell ≡ 0x7fff) × ((i : ℕ) → i < length small / 32 → IsNullBlock null small i → ⊥))

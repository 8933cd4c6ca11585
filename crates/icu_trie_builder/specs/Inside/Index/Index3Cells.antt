-- The index-2 cells of blocks of 512, by where their 32 offsets are stored.
use Rattle.std.specs.Prelude.{◌≡◌, ◌≢◌, ℕ, ◌+◌, ◌-◌, ◌/◌, ◌<◌, ◌≤◌, ◌⊎◌, List, length, take, slice_index}
use Rattle.icu_trie_core.specs.Blocks.{window, block}
use Rattle.icu_trie_builder.specs.Inside.Index.Layout.{AllBelow}
use Rattle.icu_trie_builder.specs.Inside.Index.IndexParts.{packed_cells}
use Rattle.icu_trie_builder.specs.Inside.Compaction.Windows.{IsLeast}

-- If all offsets x have 16 bits and occur in the fast index, the cell is the first position at
-- which they do.
pub record InFast (fast x : List ℕ) (cell : ℕ) : Type 0 where
  pub below : AllBelow 0x10000 x
  pub place : IsLeast 32 cell fast x

-- If they have 16 bits and do not occur in the fast index, the cell is their first position in
-- `stored`, which starts at index position `start`.
pub record InNarrow (start : ℕ) (fast stored x : List ℕ) (cell : ℕ) : Type 0 where
  pub below : AllBelow 0x10000 x
  pub nowhere : (q : ℕ) → window 32 q fast ≢ x
  pub from : start ≤ cell
  pub low : cell < 0x7fff
  pub place : IsLeast 32 (cell - start) stored x

-- If some offset has more than 16 bits, the cell is the first position of the 18-bit form, with bit
-- 15 set.
pub record InWide (start : ℕ) (stored x : List ℕ) (cell : ℕ) : Type 0 where
  pub wide : AllBelow 0x10000 x → ⊥
  pub from : 0x8000 + start ≤ cell
  pub place : IsLeast 36 (cell - (0x8000 + start)) stored (packed_cells x)

-- The index-2 cell of a block of 512 with the offsets x.
unfoldable pub IsIndex3Cell : ℕ → List ℕ → List ℕ → List ℕ → ℕ → Type 0
IsIndex3Cell start fast stored x cell =
    InFast fast x cell ⊎ (InNarrow start fast stored x cell ⊎ InWide start stored x cell)

-- No cell names a block with the offsets x.
unfoldable pub IsUnplaced : ℕ → List ℕ → List ℕ → List ℕ → Type 0
IsUnplaced start fast stored x = (cell : ℕ) → IsIndex3Cell start fast stored x cell → ⊥

-- Index-3 blocks are stored from index position `start` on: 16-bit cells, up to the end of a block
-- of 36 cells at position 0x7ffe.
pub record IsIndex3Store (start : ℕ) (stored : List ℕ) : Type 0 where
  pub fit : AllBelow 0x10000 stored
  pub room : start + length stored ≤ 0x7ffe + 36

-- A block of 512 with the offsets x is placed, and has this index-2 cell.
pub record IsPlacedOffsets (start : ℕ) (fast x before after : List ℕ) (cell : ℕ) : Type 0 where
  pub names : IsIndex3Cell start fast after x cell
  pub below : cell < 0x10000
  pub store : IsIndex3Store start after
  pub kept : take (length before) after ≡ before
  -- If cells are appended, they belong to this block, which was not stored before.
  pub fresh : length before < length after → IsUnplaced start fast before x
  pub wide : length after ≤ length before + 36
  pub narrow : AllBelow 0x10000 x → length after ≤ length before + 32

-- The index-2 cells of all blocks of 512.
pub record IsIndexed (start : ℕ) (fast offsets stored cells : List ℕ) : Type 0 where
  pub count : length cells ≡ length offsets / 32
  pub cell : (i : ℕ) → i < length cells
      → IsIndex3Cell start fast stored (block 32 offsets i) (slice_index cells i)
  pub below : AllBelow 0x10000 cells

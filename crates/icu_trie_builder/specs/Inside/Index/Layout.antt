-- The layout of the index.
use Rattle.std.specs.Prelude.{◌≡◌, ◌≢◌, ℕ, ◌+◌, ◌-◌, ◌*◌, ◌/◌, ◌<◌, ◌≤◌, List, length, slice_index, Some}
use Rattle.std.specs.Int.{div_ceil}
use Rattle.icu_trie_core.specs.declared.header.TrieType.{TrieType}
use Rattle.icu_trie_core.specs.Blocks.{block, count_different}
use Rattle.icu_trie_core.specs.Format.{fast_limit, fast_offset, small_offset, index2_cell}

-- Each number of the list is below n.
abbrev pub AllBelow : ℕ → List ℕ → Type 0
AllBelow n xs = (i : ℕ) → i < length xs → slice_index xs i < n

-- The position of the first index-3 block: after the fast index and the index-1 cells. Index-1 has
-- one cell for each 0x4000 code points, from those that contain the fast limit up to the high
-- start.
abbrev pub index3_start : TrieType → ℕ → ℕ
index3_start t high = fast_limit t / 64 + (div_ceil high 0x4000 - fast_limit t / 0x4000)

-- A bound on the cells of the index-3 blocks: 36 for each distinct list of 32 offsets.
abbrev pub index3_cells : List ℕ → ℕ
index3_cells small = 36 * count_different (block 32 small) 0 (length small / 32)

-- The index gives each block of 16, from the fast limit up to the high start, its data offset in
-- `small`.
pub record GivesSmall (t : TrieType) (high : ℕ) (small index : List ℕ) : Type 0 where
  pub on_small : (c : ℕ) → fast_limit t ≤ c → c < high
      → small_offset t index c ≡ Some (slice_index small (c / 16 - fast_limit t / 16))
  -- Blocks of 512 with the same offsets have the same index-2 cell.
  pub on_cells : (b d : ℕ) → fast_limit t ≤ b * 512 → b * 512 < high → fast_limit t ≤ d * 512
      → d * 512 < high
      → block 32 small (b - fast_limit t / 512) ≡ block 32 small (d - fast_limit t / 512)
      → index2_cell t index (b * 512) ≡ index2_cell t index (d * 512)
  -- No index-2 cell is 0x7fff, which stands for "no null block".
  pub not_null : (c : ℕ) → fast_limit t ≤ c → c < high → index2_cell t index c ≢ Some 0x7fff

-- The index gives each block of 64 below the fast limit its offset in `fast`, and each block of 16
-- from there on its offset in `small`.
pub record IsIndex (t : TrieType) (high : ℕ) (fast small index : List ℕ) : Type 0 where
  pub longer : length fast ≤ length index
  pub on_fast : (c : ℕ) → c < fast_limit t → fast_offset index c ≡ Some (slice_index fast (c / 64))
  pub gives : GivesSmall t high small index

-- All 32 offsets of block number i are `null`.
abbrev pub IsNullBlock : ℕ → List ℕ → ℕ → Type 0
IsNullBlock null small i = (q : ℕ) → q < 32 → slice_index small (32 * i + q) ≡ null

-- From the fast limit up to the high start, `cell` is the index-2 cell of exactly those blocks of
-- 512 whose offsets all are `null`.
pub record IsNullIndex (t : TrieType) (high null : ℕ) (small index : List ℕ) (cell : ℕ)
    : Type 0 where
  pub has : (b : ℕ) → fast_limit t ≤ b * 512 → b * 512 < high
      → IsNullBlock null small (b - fast_limit t / 512)
      → index2_cell t index (b * 512) ≡ Some cell
  -- No other block has this cell.
  pub only : (b : ℕ) → fast_limit t ≤ b * 512 → b * 512 < high
      → index2_cell t index (b * 512) ≡ Some cell
      → IsNullBlock null small (b - fast_limit t / 512)

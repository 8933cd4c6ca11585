-- The numbers of all code points, stored in blocks of 16: for each block whether it is mixed, and
-- its number or the position of its cells; and the cells.
use Rattle.std.specs.Prelude.{◌≡◌, ◌≢◌, ℕ, ◌/◌, ◌%◌, ◌<◌, ◌≤◌, ◌⊎◌, Bool, true, false, List, [], length, map, replicate, slice_index, slice_index_or, if◌then◌else◌}
use Rattle.std.specs.List.{range_with_len}
use Rattle.icu_trie_builder.specs.Inside.Map.NumberMap.{code_points}
use Rattle.icu_trie_builder.specs.declared.map.blocks.Block.{Block}
use Rattle.icu_trie_builder.specs.declared.map.blocks.Block.TheVariants.{One, Cells}

-- The number of blocks of 16 code points.
abbrev pub block_count : ℕ
block_count = 0x11000

-- Which blocks are mixed, and the numbers of all code points.
pub record BlockMap : Type 0 where
  pub mixed : List Bool
  pub numbers : List ℕ

-- True if block number i is mixed.
abbrev pub is_mixed : List Bool → ℕ → Bool
is_mixed mixed i = slice_index_or mixed i false

-- The number of the code point c: that of its cell if its block is mixed, otherwise that of the
-- block.
unfoldable pub number_at : List Bool → List ℕ → List (List ℕ) → ℕ → ℕ
number_at mixed places cells c =
    if is_mixed mixed (c / 16)
    then slice_index (slice_index_or cells (slice_index places (c / 16)) []) (c % 16)
    else slice_index places (c / 16)

-- The numbers of all code points in order.
abbrev pub all_numbers : (ℕ → ℕ) → List ℕ
all_numbers number = map number (range_with_len 0 code_points)

-- All blocks are present, and each mixed block has its own 16 cells.
pub record AreBlocks (mixed : List Bool) (places : List ℕ) (cells : List (List ℕ)) : Type 0 where
  pub all : length mixed ≡ block_count
  pub same : length places ≡ block_count
  pub inside : (i : ℕ) → is_mixed mixed i ≡ true → slice_index places i < length cells
  pub own : (i j : ℕ) → is_mixed mixed i ≡ true → is_mixed mixed j ≡ true
      → slice_index places i ≡ slice_index places j → i ≡ j
  pub whole : (k : ℕ) → k < length cells → length (slice_index_or cells k []) ≡ 16

-- The numbers of the 16 code points of a block.
abbrev pub contents : Block → List ℕ
contents (One number) = replicate 16 number
contents (Cells cells) = cells.now

-- A write may start or end at this code point: a block starts here, or the block is mixed.
abbrev pub IsBorder : BlockMap → ℕ → Type 0
IsBorder b c = (c % 16 ≡ 0) ⊎ (is_mixed b.mixed (c / 16) ≡ true)

-- `new` has this number in start..end, and elsewhere what `old` has.
pub record IsWritten (old new : List ℕ) (start end number : ℕ) : Type 0 where
  pub len : length new ≡ length old
  pub inside : (c : ℕ) → start ≤ c → c < end → slice_index new c ≡ number
  pub outside : (c : ℕ) → (c < start) ⊎ (end ≤ c) → slice_index new c ≡ slice_index old c

-- The first code point in start..end with another number than this, or `end` if there is none.
pub record IsOther (numbers : List ℕ) (start end number found : ℕ) : Type 0 where
  pub from : start ≤ found
  pub within : found ≤ end
  pub same : (c : ℕ) → start ≤ c → c < found → slice_index numbers c ≡ number
  pub other : found < end → slice_index numbers found ≢ number

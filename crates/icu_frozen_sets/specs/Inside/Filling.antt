-- The words of a frozen set while they are filled, from the first code point on. The current block is
-- separate, with the boundaries of the ranges in it: each flips the bits of its word from there on.
use Rattle.std.specs.Prelude.{ℕ, zero, suc, ◌+◌, ◌-◌, ◌*◌, ◌/◌, ◌%◌, ◌^◌, ◌<◌, ◌≤◌, ◌≡◌, ◌≢◌, List, length, slice_index, slice_index_or, Bool, false, ◌==◌, min, if◌then◌else◌}
use Rattle.std.specs.Int.{bit_at}
use Rattle.icu_zerovec.specs.CodePoints.{code_point_limit}
use Rattle.icu_invlist.specs.InversionList.{holds}
use Rattle.icu_frozen_sets.specs.FrozenWords.{IsFrozenOf, bit_in, offset_words, place_in}

-- Whether the bit of c is 1 in the words of its block.
abbrev pub block_bit : List ℕ → ℕ → Bool
block_bit block c = bit_at (slice_index block (c / 64 % 16)) (c % 64) == 1

-- Whether the bit of c is 1 in words that start with the bit of code point 0.
abbrev pub bit_among : List ℕ → ℕ → Bool
bit_among words c = bit_at (slice_index words (c / 64)) (c % 64) == 1

-- The first of sixteen words is `word`, and all others are 0.
pub record IsOnly (words : List ℕ) (word : ℕ) : Type 0 where
  pub first : slice_index words 0 ≡ word
  pub none : (k : ℕ) → 0 < k → k < 16 → slice_index words k ≡ 0

-- The offsets are followed by the words of the block of U+0000, of the empty block and of the full block.
-- The sixteen words of each block are there. There are at most sixteen words for each block, and 32 more.
pub record AreTables (table : List ℕ) : Type 0 where
  pub some : 0 < offset_words table
  pub few : offset_words table ≤ 1088
  pub least : offset_words table + 48 ≤ length table
  pub most : length table ≤ offset_words table + 32 + 16 * 1088
  pub above : (b : ℕ) → b < 1088 → offset_words table ≤ place_in table b
  pub placed : (b : ℕ) → b < 1088 → place_in table b + 16 ≤ length table
  pub none : (k : ℕ) → k < 16 → slice_index table (offset_words table + 16 + k) ≡ 0
  pub all : (k : ℕ) → k < 16 → slice_index table (offset_words table + 32 + k) ≡ 2 ^ 64 - 1

-- Block b has an offset that is not that of later blocks, too, or it is the end of all blocks.
abbrev pub HasOffset : List ℕ → ℕ → Type 0
HasOffset table b = b < 1088 → min (b + 2) 1088 ≤ offset_words table

-- In the new words, block `at` has these bits. Nothing else changes.
pub record SetsBlock (old new : List ℕ) (at : ℕ) (bits : ℕ → Bool) : Type 0 where
  pub tables : AreTables new
  pub offsets : offset_words new ≡ offset_words old
  pub few : length new ≤ length old + 16 * min at 1
  pub others : (b : ℕ) → b ≢ at → b < 1088 → place_in new b ≡ place_in old b
  pub kept : (c : ℕ) → c / 1024 ≢ at → c < code_point_limit → bit_in new c ≡ bit_in old c
  pub set : (c : ℕ) → c / 1024 ≡ at → bit_in new c ≡ bits c

-- The words have the blocks below `at`. All others are empty, except that the words of the block of U+0000
-- may have any bits before they are written.
pub record IsFilling (table : List ℕ) (at : ℕ) : Type 0 where
  pub tables : AreTables table
  pub few : length table ≤ offset_words table + 48 + 16 * (at - 1)
  pub within : at ≤ 1088
  pub own : HasOffset table at
  pub empty : (b : ℕ) → 0 < b → at ≤ b → b < 1088 → place_in table b ≡ offset_words table + 16

-- The number of the words before index w whose last bit is 1.
unfoldable pub last_bits : List ℕ → ℕ → ℕ
last_bits block zero = 0
last_bits block (suc w) = last_bits block w + bit_at (slice_index block w) 63

-- Whether an odd number of boundaries at or below c is marked in its block. Each flips the bits of its word from
-- there on, so the last bit of a word is 1 if the word has an odd number of boundaries.
unfoldable pub is_odd_at : List ℕ → ℕ → Bool
is_odd_at block c = (bit_at (slice_index block (c / 64 % 16)) (c % 64) + last_bits block (c / 64 % 16)) % 2 == 1

-- The bit of c, which is in block `at` if these boundaries are marked there, and otherwise in the words.
unfoldable pub filled : List ℕ → List ℕ → ℕ → ℕ → Bool
filled table block at c = if c / 1024 == at then is_odd_at block c else bit_in table c

-- All code points that are filled are below `next`, which is not before block `at`.
pub record IsFilledBelow (table block : List ℕ) (at next : ℕ) : Type 0 where
  pub here : at ≤ next / 1024
  pub none : (c : ℕ) → next ≤ c → c < code_point_limit → filled table block at c ≡ false

-- The words are the frozen set with these boundaries, and their last offset is at index `last`. `ascii`
-- and `two_bytes` repeat the bits of ASCII and of the code points below 0x800, and `bmp` the offsets of the
-- blocks below 0x10000.
pub record IsFrozen (ends : List ℕ) (ascii : List Bool) (two_bytes bmp table : List ℕ) (last : ℕ) : Type 0 where
  pub frozen : IsFrozenOf ends table
  pub end : last ≡ offset_words table - 1
  pub first : (c : ℕ) → c < 128 → slice_index_or ascii c false ≡ holds ends c
  pub short : (c : ℕ) → c < 2048 → bit_among two_bytes c ≡ holds ends c
  pub offsets : (b : ℕ) → b < 64 → slice_index bmp b ≡ place_in table b

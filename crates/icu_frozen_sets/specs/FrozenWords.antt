-- Frozen sets in 64-bit words. First come offsets, one word for each block of 1,024 code points. A block's
-- offset is the index of the first of its sixteen words, each of which has the bits of 64 code points,
-- the first one in the lowest bit. The words of the block of U+0000 follow the offsets, so its offset
-- is also the number of words of offsets. The last offset is that of all blocks after its own, too. Of an
-- offset only the low 32 bits count, so that no index overflows for any words.
use Rattle.std.specs.Prelude.{◌≡◌, ◌⊎◌, ℕ, ◌+◌, ◌-◌, ◌*◌, ◌/◌, ◌%◌, ◌^◌, ◌<◌, ◌≤◌, ◌==◌, ◌&&◌, nat_lt, min, Bool, List, length, slice_index}
use Rattle.std.specs.Int.{bit_at}
use Rattle.icu_zerovec.specs.CodePoints.{code_point_limit}
use Rattle.icu_invlist.specs.InversionList.{IsValid, holds}

-- The number of words of offsets.
abbrev pub offset_words : List ℕ → ℕ
offset_words table = slice_index table 0 % 2 ^ 32

-- The offset at position k.
abbrev pub offset_at : List ℕ → ℕ → ℕ
offset_at table k = slice_index table k % 2 ^ 32

-- The offset of block b: the one at its position, or the last one.
abbrev pub place_in : List ℕ → ℕ → ℕ
place_in table b = offset_at table (min b (offset_words table - 1))

-- Whether the bit of c is 1. Words that are missing count as 0.
abbrev pub bit_in : List ℕ → ℕ → Bool
bit_in table c =
    bit_at (slice_index table (place_in table (c / 1024) + c / 64 % 16)) (c % 64) == 1

-- Whether c is a code point whose bit is 1.
abbrev pub is_held : List ℕ → ℕ → Bool
is_held table c = nat_lt c code_point_limit && bit_in table c

-- The words are the frozen set with these boundaries. The offset of each block and its sixteen words are
-- there, so a look-up reads inside the table without a test. The bit of each code point says whether the
-- set contains it. The offsets take at most one word for each of the 1,088 blocks, and end soon after the
-- last boundary that is not the end of the code space: if p is above it, they take at most p / 1024 + 2
-- words. After them come at most sixteen words for each block and 32 more.
pub record IsFrozenOf (ends table : List ℕ) : Type 0 where
  pub valid : IsValid ends
  pub some : 0 < offset_words table
  pub few : offset_words table ≤ 1088
  pub placed : (b : ℕ) → b < 1088 → place_in table b + 16 ≤ length table
  pub offsets : offset_words table ≤ length table
  pub short : (p : ℕ) → ((i : ℕ) → i < length ends → (slice_index ends i < p) ⊎ (slice_index ends i ≡ code_point_limit))
      → offset_words table ≤ p / 1024 + 2
  pub most : length table ≤ offset_words table + 32 + 16 * 1088
  pub bits : (c : ℕ) → c < code_point_limit → bit_in table c ≡ holds ends c

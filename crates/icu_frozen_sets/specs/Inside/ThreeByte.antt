-- Characters of three bytes in UTF-8, by the upper bits of their code points: all but the lowest
-- six.
use Rattle.std.specs.Prelude.{◌≡◌, ◌⊎◌, ℕ, ◌+◌, ◌*◌, ◌/◌, ◌%◌, ◌<◌, ◌≤◌, ◌==◌, ◌||◌, nat_lt, if◌then◌else◌, Bool, true, false, List, ◌++◌, encode_utf8, length, take, drop, slice_index}
use Rattle.std.specs.Char.{IsScalar}
use Rattle.std.specs.Int.{bit_at}
use mathlib.Core.Bool.{beq}
use Rattle.icu_frozen_sets.specs.FrozenWords.{place_in}
use Rattle.icu_frozen_sets.specs.LongestSpans.{AllHeld}
use Rattle.icu_frozen_sets.specs.Inside.TwoByte.{AreLongTables}
use Rattle.icu_frozen_sets.specs.declared.three_byte.Passed.{Passed}

-- The bytes start with a lead byte of three bytes and two trail bytes, with these upper bits.
pub record IsThree (bytes : List ℕ) (high : ℕ) : Type 0 where
  pub most : high < 1024
  pub lead : slice_index bytes 0 ≡ 0xE0 + high / 64
  pub first : slice_index bytes 1 ≡ 0x80 + high % 64
  pub second : slice_index bytes 2 / 64 ≡ 2

-- These are the upper bits of characters of three bytes, and not of surrogates.
abbrev pub AreOfThree : ℕ → Type 0
AreOfThree high = (0x20 ≤ high) × ((high < 0x360) ⊎ (0x380 ≤ high))

-- The bits of the word say of the 64 code points with these upper bits whether the set contains
-- them.
abbrev pub AreBitsOf : (ℕ → Bool) → ℕ → ℕ → Type 0
AreBitsOf is_in high word = (j : ℕ) → j < 64 → (bit_at word j == 1) ≡ is_in (64 * high + j)

-- The offset of block b, or 0xFFFF_FFFF if it has characters of one or two bytes, or surrogates.
abbrev pub wide_place : List ℕ → ℕ → ℕ
wide_place table b = if b / 2 == 0 || b / 2 == 27 then 0xFFFF_FFFF else place_in table b

-- The words, the table of ASCII, and the offsets of blocks.
pub record AreWideTables (table : List ℕ) (held : Bool) (words others places : List ℕ) : Type 0
  where
    pub long : AreLongTables table held words others
    pub wide : (b : ℕ) → b < 64 → slice_index places b ≡ wide_place table b

-- How many bytes a character has that starts with this byte.
abbrev pub size_by_lead : ℕ → ℕ
size_by_lead lead =
    if nat_lt lead 0x80 then 1
    else (if nat_lt lead 0xE0 then 2 else (if nat_lt lead 0xF0 then 3 else 4))

-- From `start` to before `end` are characters of the kind. If `is_end` is true, a character that is
-- not of the kind follows them.
pub record IsPassed (is_sound : Type 0) (is_in : ℕ → Bool) (held : Bool) (bytes : List ℕ)
    (start : ℕ) (passed : Passed) : Type 0 where
  pub order : start ≤ passed.end
  pub within : passed.end ≤ length bytes
  pub alike : is_sound → AllHeld is_in held (take start bytes)
      → AllHeld is_in held (take passed.end bytes)
  pub ends : is_sound → passed.is_end ≡ true → (c : ℕ) × (more : List ℕ) × IsScalar c
      × (drop passed.end bytes ≡ encode_utf8 c ++ more) × (beq (is_in c) held ≡ false)

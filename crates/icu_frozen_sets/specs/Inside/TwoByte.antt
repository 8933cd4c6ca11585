-- Characters of one and two bytes in UTF-8, tested by each byte and the byte before it.
use Rattle.std.specs.Prelude.{◌≡◌, ℕ, ◌+◌, ◌-◌, ◌/◌, ◌%◌, ◌<◌, ◌≤◌, ◌==◌, if◌then◌else◌, Bool, true, nat_le, List, slice_index}
use Rattle.std.specs.Int.{bit_at}
use mathlib.Core.Bool.{beq}
use Rattle.icu_frozen_sets.specs.FrozenWords.{is_held}

-- Below 32, word k has the bits of the 64 code points whose bytes start with 0xC0 + k: whether they
-- are of the kind. The first two words, whose code points are ASCII, come again as words 32 and 33.
-- Word 35 says of the bytes from 0xC0 on whether they start a character of two bytes.
pub record AreShortWords (table : List ℕ) (held : Bool) (words : List ℕ) : Type 0 where
  pub bits : (c : ℕ) → c < 2048
      → (bit_at (slice_index words (c / 64)) (c % 64) == 1) ≡ beq (is_held table c) held
  pub low : slice_index words 32 ≡ slice_index words 0
  pub high : slice_index words 33 ≡ slice_index words 1
  pub leads : slice_index words 35 ≡ 0xFFFF_FFFC

-- Whether either the byte is a trail byte and the byte before it a lead byte, or neither is.
abbrev pub is_paired : ℕ → ℕ → Bool
is_paired before byte = beq (byte / 64 == 2) (nat_le 0xC0 before)

-- The index of the word with the bit of a byte: for a trail byte it depends on its lead byte.
abbrev pub word_of : ℕ → ℕ → ℕ
word_of before byte = if byte / 64 == 2 then before % 32 else 32 + byte / 64

-- Whether the bit of a byte is 1.
abbrev pub has_bit : List ℕ → ℕ → ℕ → Bool
has_bit words before byte = bit_at (slice_index words (word_of before byte)) (byte % 64) == 1

-- The test is true of each byte from `start` to before `end`, and the byte before it.
abbrev pub OfEach : (ℕ → ℕ → Bool) → List ℕ → ℕ → ℕ → Type 0
OfEach test bytes start end = (i : ℕ) → start ≤ i → i < end
    → test (slice_index bytes (i - 1)) (slice_index bytes i) ≡ true

-- The words of a kind, and a table with 0 only for ASCII characters of the kind, and bytes that are
-- not ASCII.
pub record AreLongTables (table : List ℕ) (held : Bool) (words others : List ℕ) : Type 0 where
  pub short : AreShortWords table held words
  pub plain : (c : ℕ) → c < 128 → slice_index others c ≡ 0 → beq (is_held table c) held ≡ true

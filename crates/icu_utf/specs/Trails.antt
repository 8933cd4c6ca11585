-- The trail bytes of UTF-8, and what the first two of three or four bytes contain.
use Rattle.std.specs.Prelude.{◌≡◌, ℕ, ◌+◌, ◌<◌, ◌≤◌, ◌⊎◌, List, length, slice_index}

-- There is a trail byte with these six bits at the index.
pub record IsTrail (bytes : List ℕ) (place bits : ℕ) : Type 0 where
  pub there : place < length bytes
  pub byte : slice_index bytes place ≡ 0x80 + bits
  pub six : bits < 64

-- There is no byte at the index, or one that is not a trail byte.
abbrev pub IsNoTrail : List ℕ → ℕ → Type 0
IsNoTrail bytes place =
    place < length bytes → (slice_index bytes place < 0x80) ⊎ (0xC0 ≤ slice_index bytes place)

-- The second or the third byte is not a trail byte, and the third is asked about only if the second
-- is one.
abbrev pub LacksTrail : List ℕ → Type 0
LacksTrail bytes = IsNoTrail bytes 1 ⊎ ((bits : ℕ) × IsTrail bytes 1 bits × IsNoTrail bytes 2)

-- The same for the three bytes of a character of four after the first.
abbrev pub LacksTrailOfThree : List ℕ → Type 0
LacksTrailOfThree bytes = LacksTrail bytes
    ⊎ ((second : ℕ) × (third : ℕ) × IsTrail bytes 1 second × IsTrail bytes 2 third
    × IsNoTrail bytes 3)

-- These can be the upper ten bits of a three-byte character, which its first two bytes contain:
-- they are not those of an overlong sequence or a surrogate.
abbrev pub IsHighOfThree : ℕ → Type 0
IsHighOfThree high = (0x20 ≤ high) × ((high < 0x360) ⊎ (0x380 ≤ high))

-- These can be the upper nine bits of a four-byte character, which its first two bytes contain:
-- they are not those of an overlong sequence or a number above 0x10FFFF.
abbrev pub IsHighOfFour : ℕ → Type 0
IsHighOfFour high = (0x10 ≤ high) × (high < 0x110)

-- The bytes after the index, three at most, are trail bytes. The byte at the index is none, unless
-- it is the first byte of all or three follow it.
pub record IsLastLead (bytes : List ℕ) (start : ℕ) : Type 0 where
  pub within : start < length bytes
  pub near : length bytes ≤ start + 4
  pub trails : (i : ℕ) → start < i → i < length bytes
      → (0x80 ≤ slice_index bytes i) × (slice_index bytes i < 0xC0)
  pub lead : (start ≡ 0) ⊎ (length bytes ≡ start + 4)
      ⊎ (slice_index bytes start < 0x80) ⊎ (0xC0 ≤ slice_index bytes start)

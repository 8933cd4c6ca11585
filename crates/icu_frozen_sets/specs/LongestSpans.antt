-- Spans: the longest prefix or suffix of a text whose characters are all in a set, or all outside
-- it. The text is bytes that may be ill-formed UTF-8, or units that may be ill-formed UTF-16.
use Rattle.std.specs.Prelude.{◌≡◌, ◌⊎◌, ℕ, ◌+◌, ◌<◌, ◌≤◌, Bool, nat_lt, if◌then◌else◌, List, [], ◌∷◌, length, take, drop, Some}
use Rattle.std.specs.List.{All, take_while}
use Rattle.std.specs.Str.{IsUtf8, chars}
use mathlib.Core.Bool.{beq}
use Rattle.icu_utf.specs.Utf16.{code_points_of}
use Rattle.icu_utf.specs.Utf8.{IsFirstPart}

-- The byte at index i is one of the bytes of the character c.
pub record IsByteOf (bytes : List ℕ) (i c : ℕ) : Type 0 where
  pub start : ℕ
  pub size : ℕ
  pub character : IsFirstPart (drop start bytes) (Some c) size
  pub from : start ≤ i
  pub before : i < start + size

module _ (is_in : ℕ → Bool) (held : Bool) where
  -- The bytes are UTF-8. All their characters are in the set or, if `held` is false, outside it.
  abbrev pub AllHeld : List ℕ → Type 0
  AllHeld bytes = IsUtf8 bytes × All (λ c. is_in c ≡ held) (chars bytes)

  -- The first n bytes are the longest prefix of which this is true.
  pub record IsSpan (bytes : List ℕ) (n : ℕ) : Type 0 where
    pub within : n ≤ length bytes
    pub alike : AllHeld (take n bytes)
    pub longest : (m : ℕ) → n < m → m ≤ length bytes → ¬ (AllHeld (take m bytes))

  -- The bytes from offset n on are the longest suffix of which this is true.
  pub record IsSpanBack (bytes : List ℕ) (n : ℕ) : Type 0 where
    pub within : n ≤ length bytes
    pub alike : AllHeld (drop n bytes)
    pub longest : (m : ℕ) → m < n → ¬ (AllHeld (drop m bytes))

  -- The byte at index i is one of a character in the set, or outside it if `held` is false. A byte
  -- of no character is ill-formed (the Unicode Standard, D84a) and counts as U+FFFD.
  abbrev pub IsHeldByte : List ℕ → ℕ → Type 0
  IsHeldByte bytes i = ((c : ℕ) × IsByteOf bytes i c × (is_in c ≡ held))
      ⊎ (((c : ℕ) → ¬ (IsByteOf bytes i c)) × (is_in 0xFFFD ≡ held))

  -- The first n bytes are the longest prefix of such bytes.
  pub record IsLossySpan (bytes : List ℕ) (n : ℕ) : Type 0 where
    pub within : n ≤ length bytes
    pub alike : (i : ℕ) → i < n → IsHeldByte bytes i
    pub longest : n < length bytes → ¬ (IsHeldByte bytes n)

  -- The bytes from offset n on are the longest suffix of such bytes.
  pub record IsLossySpanBack (bytes : List ℕ) (n : ℕ) : Type 0 where
    pub within : n ≤ length bytes
    pub alike : (i : ℕ) → n ≤ i → i < length bytes → IsHeldByte bytes i
    pub longest : (i : ℕ) → n ≡ i + 1 → ¬ (IsHeldByte bytes i)

-- The number of 16-bit units of code points: two for each above 0xFFFF, otherwise one.
abbrev pub unit_count : List ℕ → ℕ
unit_count [] = 0
unit_count (c ∷ cs) = (if nat_lt c 0x10000 then 1 else 2) + unit_count cs

-- The number of units of the longest prefix of such code points.
abbrev pub unit_span : (ℕ → Bool) → Bool → List ℕ → ℕ
unit_span is_in held units =
    unit_count (take_while (λ c. beq (is_in c) held) (code_points_of units))

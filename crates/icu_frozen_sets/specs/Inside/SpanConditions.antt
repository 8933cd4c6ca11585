-- What the kinds of a span are made of: a set, and whether the code points in it are meant.
use Rattle.std.specs.Prelude.{◌≡◌, ℕ, ◌/◌, ◌%◌, ◌<◌, ◌≤◌, ◌==◌, Bool, List, slice_index}
use Rattle.std.specs.Int.{bit_at}
use mathlib.Core.Bool.{beq}
use Rattle.icu_invlist.specs.InversionList.{IsValid, holds}
use Rattle.icu_frozen_sets.specs.FrozenWords.{is_held}

-- The words of a frozen set, or the boundaries of a set, and what is meant.
pub record NumbersAndHeld : Type 0 where
  pub numbers : List ℕ
  pub held : Bool

-- Bit c of the two words says whether the ASCII character c is of this kind.
abbrev pub HasAscii : List ℕ → Bool → List ℕ → Type 0
HasAscii table held ascii = (c : ℕ) → c < 128
    → (bit_at (slice_index ascii (c / 64)) (c % 64) == 1) ≡ beq (is_held table c) held

-- If the boundaries are those of a set: `is_of_kind` says of each code point from `from` to before
-- `to` whether it is of this kind.
abbrev pub IsRangeOfKind : List ℕ → Bool → ℕ → ℕ → Bool → Type 0
IsRangeOfKind ends held from to is_of_kind = IsValid ends
    → (c : ℕ) → from ≤ c → c < to → is_of_kind ≡ beq (holds ends c) held

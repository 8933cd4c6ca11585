-- Code points between two neighbouring boundaries.
use Rattle.std.specs.Prelude.{◌≡◌, ℕ, suc, ◌<◌, ◌≤◌, Bool, true, List, ◌∷◌, get_or}
use mathlib.Core.Bool.{beq}
use Rattle.icu_zerovec.specs.CodePoints.{code_point_limit}
use Rattle.icu_invlist.specs.InversionList.{holds}
use Rattle.icu_invlist.specs.Inside.Places.{ends_below}

-- All code points in start..end are in the set if `held` is true, and outside it otherwise.
abbrev pub IsStretch : List ℕ → Bool → ℕ → ℕ → Type 0
IsStretch ends held start end = (c : ℕ) → start ≤ c → c < end → beq (holds ends c) held ≡ true

-- The code points around c are start..end: from the last boundary that is not above c, or from 0,
-- to before the next boundary, or to the end of the code space.
abbrev pub IsAround : List ℕ → ℕ → ℕ → ℕ → Type 0
IsAround ends c start end = (start ≡ get_or (0 ∷ ends) (ends_below ends (suc c)) 0)
    × (end ≡ get_or ends (ends_below ends (suc c)) code_point_limit)

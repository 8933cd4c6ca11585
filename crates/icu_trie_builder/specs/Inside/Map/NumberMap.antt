-- A map from code points to numbers.
use Rattle.std.specs.Prelude.{◌≡◌, ℕ, ◌<◌, ◌≤◌, List, slice_index}
use Rattle.icu_zerovec.specs.CodePoints.{code_point_limit}

-- The number of code points. It has a name of its own so that proofs do not compute with the
-- number.
unfoldable pub code_points : ℕ
code_points = code_point_limit

-- From this code point on, all code points have the number of the last one.
abbrev pub IsHighFrom : List ℕ → ℕ → Type 0
IsHighFrom numbers start =
    (c : ℕ) → start ≤ c → c < code_point_limit
    → slice_index numbers c ≡ slice_index numbers 0x10ffff

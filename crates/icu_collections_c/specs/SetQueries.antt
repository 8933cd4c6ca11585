-- The code points of a set by their index in ascending order, from 0 on.
use Rattle.std.specs.Prelude.{ℕ, ◌≡◌, ◌⊎◌, ◌<◌, ◌≤◌, Bool, true, false, List}
use Rattle.icu_zerovec.specs.CodePoints.{code_point_limit}
use Rattle.icu_invlist.specs.InversionList.{holds, members_below}

-- If the set contains c: true, and the number of its code points below c, which is the index of c.
-- If not: false, and the number `old` is unchanged.
abbrev pub GivesIndex : List ℕ → ℕ → ℕ → Bool → ℕ → Type 0
GivesIndex ends c old found new =
    ((holds ends c ≡ true) × (found ≡ true) × (new ≡ members_below ends c))
    ⊎ ((holds ends c ≡ false) × (found ≡ false) × (new ≡ old))

-- If the set has more than n code points: true, and the one that has n of them below it. If not:
-- false, and the number `old` is unchanged.
abbrev pub GivesNth : List ℕ → ℕ → ℕ → Bool → ℕ → Type 0
GivesNth ends n old found new =
    ((n < members_below ends code_point_limit) × (found ≡ true)
    × (holds ends new ≡ true) × (members_below ends new ≡ n))
    ⊎ ((members_below ends code_point_limit ≤ n) × (found ≡ false) × (new ≡ old))

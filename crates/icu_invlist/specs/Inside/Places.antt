-- Definitions on lists of boundaries, for the contracts of the private functions that search and
-- change such lists. No public contract uses them.
use Rattle.std.specs.Prelude.{ℕ, suc, ◌+◌, ◌*◌, ◌<◌, ◌≤◌, ◌≡◌, ◌⊎◌, List, [], ◌∷◌, Bool, if◌then◌else◌, nat_lt}
use Rattle.icu_invlist.specs.InversionList.{holds, between}

-- The numbers are strictly ascending, at least lo and below hi.
abbrev pub Run : ℕ → ℕ → List ℕ → Type 0
Run lo hi [] = Unit {0}
Run lo hi (x ∷ xs) = (lo ≤ x) × (x < hi) × Run (suc x) hi xs

-- How many numbers of the list are below c.
abbrev pub ends_below : List ℕ → ℕ → ℕ
ends_below [] c = 0
ends_below (x ∷ xs) c = if nat_lt x c then suc (ends_below xs c) else ends_below xs c

-- Membership in the new set is `value` from start to before end, and as in the old set elsewhere.
abbrev pub IsFilled : List ℕ → ℕ → ℕ → Bool → List ℕ → Type 0
IsFilled old start end value new = (c : ℕ)
    → holds new c ≡ (if between start end c then value else holds old c)

-- Of the next three steps from low, k end at or before index p: all three, or the step after them
-- ends behind p.
pub record AreStepsBelow (p low step k : ℕ) : Type 0 where
  pub within : step * k ≤ 3 * step
  pub reached : low + step * k ≤ p
  pub past : (step * k ≡ 3 * step) ⊎ (p < low + step * k + step)

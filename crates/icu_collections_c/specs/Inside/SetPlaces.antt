-- A number among the boundaries of a set.
use Rattle.std.specs.Prelude.{ℕ, ◌≡◌, ◌-◌, ◌<◌, ◌≤◌, List, length, slice_index}
use Rattle.icu_invlist.specs.InversionList.{members_below}

-- From index `from` on, the numbers before index `place` are at most c, and the one at `place`, if
-- there is one, is above c.
pub record IsPlaceFrom (ends : List ℕ) (from c place : ℕ) : Type 0 where
  pub least : from ≤ place
  pub within : place ≤ length ends
  pub passed : (k : ℕ) → from ≤ k → k < place → slice_index ends k ≤ c
  pub next : place < length ends → c < slice_index ends place

-- `before` members are below each number of the gap before the range at index i, or after the last
-- range.
abbrev pub Gap : List ℕ → ℕ → ℕ → Type 0
Gap xs i before =
    (c : ℕ) → (0 < i → slice_index xs (i - 1) ≤ c) → (i < length xs → c ≤ slice_index xs i)
    → members_below xs c ≡ before

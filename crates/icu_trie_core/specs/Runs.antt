-- Maximal runs of a map from code points.
use Rattle.std.specs.Prelude.{◌≡◌, ◌≢◌, ℕ, ◌+◌, ◌<◌, ◌≤◌, List, [], ◌∷◌, Option, Some}

-- The map has this value from `first` to `last` (inclusive), and the next code point, if there is
-- one, has another value.
pub record LongestRun {A : Type 0} (map : ℕ → A) (first last : ℕ) (value : A) : Type 0 where
  pub ordered : first ≤ last
  pub within : last < 0x110000
  pub equal : (u : ℕ) → first ≤ u → u ≤ last → map u ≡ value
  pub ends : last + 1 < 0x110000 → map (last + 1) ≢ value

-- A run of code points, both bounds inclusive, and their value.
pub record Run (A : Type 0) : Type 0 where
  pub first : ℕ
  pub last : ℕ
  pub value : A

-- The list of runs from `c` on: each run starts right after the previous one and is as long as
-- possible, and the last one ends at the last code point.
abbrev pub AreRunsFrom : {A : Type 0} → (ℕ → A) → ℕ → List (Run A) → Type 0
AreRunsFrom map c [] = c ≡ 0x110000
AreRunsFrom map c (r ∷ rs) =
    (r.first ≡ c) × LongestRun map r.first r.last r.value × AreRunsFrom map (r.last + 1) rs

-- The list of all maximal runs of the map.
abbrev pub AreMaximalRuns : {A : Type 0} → (ℕ → A) → List (Run A) → Type 0
AreMaximalRuns map runs = AreRunsFrom map 0 runs

-- A run with its value wrapped in Some.
abbrev pub some_run : {A : Type 0} → Run A → Run (Option A)
some_run r = record { first = r.first; last = r.last; value = Some r.value }

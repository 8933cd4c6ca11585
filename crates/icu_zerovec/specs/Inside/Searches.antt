-- What a binary search knows about a list. `ord` compares a value with the one that is searched
-- for. If the list is ascending, its results are `Less`, then `Equal`, then `Greater`.
use Rattle.std.specs.Prelude.{◌≡◌, ℕ, ◌+◌, ◌*◌, ◌<◌, ◌≤◌, List, length, true}
use Rattle.std.specs.List.{AllWithin, HoldsAt}
use Rattle.std.specs.List.Sorted.{IsNonDecreasingBy}
use Rattle.std.specs.Ordering.{is_le, ordering_index}
use Rattle.std.specs.declared.cmp.Ordering.{Ordering}
use Rattle.std.specs.declared.cmp.Ordering.TheVariants.{Greater}

-- The results of `ord` never decrease.
abbrev pub Rises : {X : Type 0} → (X → Ordering) → List X → Type 0
Rises ord xs = IsNonDecreasingBy (λ y. ordering_index (ord y)) xs

-- The search is narrowed to the indices from low to before end. The value at low is not `Greater`,
-- unless low is 0, and all from end on are `Greater`.
pub record IsNarrowed {X : Type 0} (ord : X → Ordering) (xs : List X) (low end : ℕ) : Type 0 where
  pub reached : Rises ord xs → 0 < low → HoldsAt (λ y. is_le (ord y) ≡ true) xs low
  pub past : Rises ord xs → AllWithin (λ y. ord y ≡ Greater) xs end (length xs)

-- Of the three values after low in steps of `step`, the first k are not `Greater`, and the next one
-- is.
pub record IsStepCount {X : Type 0} (ord : X → Ordering) (xs : List X)
    (low step k : ℕ) : Type 0 where
  pub within : step * k ≤ 3 * step
  pub reached : Rises ord xs → 0 < k → HoldsAt (λ y. is_le (ord y) ≡ true) xs (low + step * k)
  pub past : Rises ord xs → k < 3 → HoldsAt (λ y. ord y ≡ Greater) xs (low + step * k + step)

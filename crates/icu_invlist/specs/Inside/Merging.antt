-- A merge of the boundaries of two sets, in ascending order, into the boundaries of a third.
use Rattle.std.specs.Prelude.{ℕ, suc, ◌+◌, ◌<◌, ◌≤◌, ◌≡◌, ◌⊎◌, List, length, slice_index, Bool}
use Rattle.icu_zerovec.specs.CodePoints.{code_point_limit}
use Rattle.icu_invlist.specs.InversionList.{holds, is_odd}
use Rattle.icu_invlist.specs.Inside.Places.{Run, ends_below}

-- The merge has passed all boundaries below `passed`: i of a and j of b. `out` has the boundaries
-- below `passed` of the result of the operation f on the two sets.
pub record Merging (f : Bool → Bool → Bool) (a b out : List ℕ) (passed i j : ℕ) : Type 0 where
  pub first : i ≡ ends_below a passed
  pub second : j ≡ ends_below b passed
  pub run : Run 0 passed out
  pub small : passed ≤ suc code_point_limit
  pub parity : is_odd (length out) ≡ f (is_odd i) (is_odd j)
  pub set : (c : ℕ) → c < passed → holds out c ≡ f (holds a c) (holds b c)

-- A merge that has passed i boundaries of a and j of b, up to some number.
pub record Merged (f : Bool → Bool → Bool) (a b out : List ℕ) (i j : ℕ) : Type 0 where
  pub passed : ℕ
  pub so_far : Merging f a b out passed i j

-- The index i into xs moves to p when the merge passes the boundary n: by one if n is at index i,
-- and not at all if the number there is greater.
pub record MovesOver (n : ℕ) (xs : List ℕ) (i p : ℕ) : Type 0 where
  pub least : n ≤ slice_index xs i
  pub place : (slice_index xs i ≡ n) × (p ≡ i + 1) ⊎ (n < slice_index xs i) × (p ≡ i)

-- All boundaries of a are below some number, and none of b is.
pub record StandBefore (a b : List ℕ) : Type 0 where
  pub end : ℕ
  pub within : end ≤ suc code_point_limit
  pub first : length a ≡ ends_below a end
  pub second : 0 ≡ ends_below b end

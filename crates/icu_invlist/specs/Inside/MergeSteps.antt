-- The steps of a merge of two lists of boundaries into a buffer, which may be too short.
use Rattle.std.specs.Prelude.{ℕ, suc, ◌+◌, ◌≤◌, ◌≡◌, List, [], ◌∷◌, length, set, Bool}
use Rattle.icu_invlist.specs.InversionList.{IsValid}
use Rattle.icu_invlist.specs.Inside.Merging.{Merged}

-- The buffer after the items were put at its start, one by one. What does not fit is dropped.
unfoldable pub filled : List ℕ → List ℕ → List ℕ
filled [] old = old
filled (x ∷ xs) [] = []
filled (x ∷ xs) (y ∷ ys) = x ∷ filled xs ys

-- The same from index w on.
unfoldable pub filled_from : List ℕ → ℕ → List ℕ → List ℕ
filled_from out w [] = out
filled_from out w (x ∷ xs) = filled_from (set out w x) (suc w) xs

-- A merge of two valid lists has passed i boundaries of a and j of b, and has put w into the buffer,
-- which was `old`.
pub record MergeSteps (f : Bool → Bool → Bool) (a b old out : List ℕ) (i j w : ℕ) : Type 0 where
  pub valid : IsValid a × IsValid b
  pub first : i ≤ length a
  pub second : j ≤ length b
  pub ends : List ℕ
  pub merged : Merged f a b ends i j
  pub count : w ≡ length ends
  pub few : w ≤ i + j
  pub buffer : out ≡ filled ends old

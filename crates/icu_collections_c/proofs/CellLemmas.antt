-- Cells of bytes, each of which is a value.
use Rattle.std.proofs.Common.{◌≡◌, ℕ, zero, suc, ◌*◌, ◌/◌, ◌<◌, ◌≤◌, List, ◌++◌, length, take, drop, slice_get, Option, Some, None, refl, arith, sym, ◌∙◌, ap}
use Rattle.std.specs.Prelude.{IsSome}
use Rattle.std.specs.Option.{option_to_list}
use Rattle.std.proofs.Math.Nat.{zero-mul, suc-mul}
use Rattle.std.proofs.lemmas.List.{drop-drop}
use Rattle.std.proofs.lemmas.Option.{slice_get_past}
use Rattle.icu_zerovec.specs.Cells.{cell, values_from, values_of}

-- ---- a value before others
front-get : {T : Type 0} (o : Option T) (xs : List T) → IsSome o → slice_get (option_to_list o ++ xs) zero ≡ o
front-get None xs h = cc
front-get (Some x) xs h = refl

front-later : {T : Type 0} (o : Option T) (xs : List T) (i : ℕ) → IsSome o → slice_get (option_to_list o ++ xs) (suc i) ≡ slice_get xs i
front-later None xs i h = cc
front-later (Some x) xs i h = refl

front-length : {T : Type 0} (o : Option T) (xs : List T) → IsSome o → length (option_to_list o ++ xs) ≡ suc (length xs)
front-length None xs h = cc
front-length (Some x) xs h = refl

module _ {T : Type 0} (f : List ℕ → Option T) (w : ℕ) (every : (c : List ℕ) → IsSome (f c)) where
  length-values_from : (b : List ℕ) (n : ℕ) → length (values_from f w b n) ≡ n
  length-values_from b zero = refl
  length-values_from b (suc n) = front-length _ _ (every (take w b)) ∙ ap suc (length-values_from (drop w b) n)

  get-values_from : (b : List ℕ) (n i : ℕ) → i < n → slice_get (values_from f w b n) i ≡ f (cell w b i)
  get-values_from b zero i l = absurd (omega arith)
  get-values_from b (suc n) zero l = front-get _ _ (every (take w b)) ∙ ap (λ k. f (take w (drop k b))) (sym (zero-mul w))
  get-values_from b (suc n) (suc i) l =
      front-later _ _ i (every (take w b)) ∙ get-values_from (drop w b) n i (omega arith)
      ∙ ap (λ c. f (take w c)) (drop-drop (i * w) w b ∙ ap (λ k. drop k b) (omega (arith, suc-mul i w)))

  -- There are as many values as whole cells.
  pub length-values_of : (b : List ℕ) → length (values_of f w b) ≡ length b / w
  unfolding values_of
  length-values_of b = length-values_from b (length b / w)

  -- Value i is the value of cell i.
  pub get-values_of : (b : List ℕ) (i : ℕ) → i < length b / w → slice_get (values_of f w b) i ≡ f (cell w b i)
  unfolding values_of
  get-values_of b i l = get-values_from b (length b / w) i l

  -- There is nothing past the cells.
  pub get_past-values_of : (b : List ℕ) (i : ℕ) → length b / w ≤ i → slice_get (values_of f w b) i ≡ None
  get_past-values_of b i l = slice_get_past _ i (rw (length-values_of b) l)

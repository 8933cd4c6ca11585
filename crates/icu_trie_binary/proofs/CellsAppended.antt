-- The values of bytes one after another.
use Rattle.std.proofs.Common.{◌≡◌, ℕ, zero, suc, ◌+◌, ◌*◌, ◌/◌, ◌<◌, ◌≤◌, List, [], ◌++◌, length, take, drop, Option, refl, arith, sym, ◌∙◌, ap, append_assoc}
use Rattle.std.specs.Option.{option_to_list}
use Rattle.std.proofs.Math.Nat.{zero-mul, suc-mul, mul-div_cancel}
use Rattle.std.proofs.lemmas.List.{nil_from_length, take-append-le, drop-append-le, length-drop, length-append}
use Rattle.icu_zerovec.specs.Cells.{values_from, values_of}

module _ {T : Type 0} (f : List ℕ → Option T) (w : ℕ) (positive : 0 < w) where
  -- The values of n cells, and of m cells after them.
  values_from-append : (a b : List ℕ) (n m : ℕ) → length a ≡ n * w
      → values_from f w (a ++ b) (n + m) ≡ values_from f w a n ++ values_from f w b m
  values_from-append a b zero m e =
      let none : a ≡ [] = nil_from_length a (e ∙ zero-mul w) in
      rw (none, zero-add' m) refl
    where
      zero-add' : (k : ℕ) → zero + k ≡ k
      zero-add' k = omega arith
  values_from-append a b (suc n) m e =
      let fits : w ≤ length a = omega (arith, suc-mul n w) in
      let rest : length (drop w a) ≡ n * w = omega (arith, length-drop w a, suc-mul n w) in
      let count : suc n + m ≡ suc (n + m) = omega arith in
      ap (values_from f w (a ++ b)) count
      ∙ rw (take-append-le w a b fits, drop-append-le w a b fits, values_from-append (drop w a) b n m rest)
      (sym (append_assoc (option_to_list (f (take w a))) _ _))

  -- The values of whole cells, and of whole cells after them.
  pub values_of-append : (a b : List ℕ) (n m : ℕ) → length a ≡ n * w → length b ≡ m * w
      → values_of f w (a ++ b) ≡ values_of f w a ++ values_of f w b
  unfolding values_of
  values_of-append a b n m e h =
      let count : (k : ℕ) (c : List ℕ) → length c ≡ k * w → length c / w ≡ k = λ k c g. ap (λ x. x / w) g ∙ mul-div_cancel k positive in
      let all : length (a ++ b) ≡ (n + m) * w = length-append a b ∙ omega (arith, e, h, mul-add n m) in
      rw (count (n + m) (a ++ b) all, count n a e, count m b h) (values_from-append a b n m e)
    where
      mul-add : (x y : ℕ) → (x + y) * w ≡ x * w + y * w
      mul-add x y = omega arith

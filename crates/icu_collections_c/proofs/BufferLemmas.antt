-- Items that are written to the start of a buffer, as many as fit.
use Rattle.std.proofs.Common.{◌≡◌, ◌∙◌, refl, ap, ℕ, zero, suc, ◌<◌, ◌≤◌, ◌⊎◌, List, [], ◌∷◌, ◌++◌, length, take, arith, inl, inr}
use Rattle.std.proofs.Math.ListN.{set}
use Rattle.std.proofs.Math.Seq.{drop-nil, take-nil}
use Rattle.std.proofs.lemmas.Bool.{cases_lt}
use Rattle.icu_zerovec.specs.Buffers.{written}

module _ {A : Type 0} where
  length-written : (xs old : List A) → length (written xs old) ≡ length old
  length-written xs [] = rw (drop-nil (length xs)) refl
  length-written [] (o ∷ old) = refl
  length-written (x ∷ xs) (o ∷ old) = ap suc (length-written xs old)

  -- Nothing is written yet.
  pub written-none : (old : List A) → old ≡ written [] old
  written-none [] = refl
  written-none (o ∷ old) = refl

  -- One more item is written.
  pub written-more : (xs old : List A) (y : A) → length xs < length old → set (written xs old) (length xs) y ≡ written (xs ++ y ∷ []) old
  written-more xs [] y l = absurd (omega (arith, l))
  written-more [] (o ∷ old) y l = rw (take-nil (length old)) refl
  written-more (x ∷ xs) (o ∷ old) y l = ap (λ zs. x ∷ zs) (written-more xs old y (omega (arith, l)))

  written-full : (xs old : List A) (y : A) → length old ≤ length xs → written xs old ≡ written (xs ++ y ∷ []) old
  written-full xs [] y l = rw (drop-nil (length xs), drop-nil (length (xs ++ y ∷ []))) refl
  written-full [] (o ∷ old) y l = absurd (omega (arith, l))
  written-full (x ∷ xs) (o ∷ old) y l = ap (λ zs. x ∷ zs) (written-full xs old y (omega (arith, l)))

  -- One more item is written if it fits.
  pub written-next : (xs old buffer new : List A) (y : A) (n : ℕ) → n ≡ length xs → buffer ≡ written xs old
      → (n < length buffer → new ≡ set buffer n y) → (length buffer ≤ n → new ≡ buffer) → new ≡ written (xs ++ y ∷ []) old
  written-next xs old buffer new y n many is within past =
      let long : length buffer ≡ length old = ap length is ∙ length-written xs old in
      elim (cases_lt n (length buffer)) [
        | inl h ↦ within h ∙ rw (is, many) (written-more xs old y (omega (arith, h, long, many)))
        | inr h ↦ past h ∙ is ∙ written-full xs old y (omega (arith, h, long, many))
      ]

  -- The first n items are enough if there are no more, or if no more fit.
  pub written-take : (xs old : List A) (n : ℕ) → (length xs ≤ n) ⊎ (length old ≤ n) → written (take n xs) old ≡ written xs old
  written-take xs [] n h = rw (drop-nil (length (take n xs)), drop-nil (length xs)) refl
  written-take [] (o ∷ old) n h = rw (take-nil n) refl
  written-take (x ∷ xs) (o ∷ old) zero (inl h) = absurd (omega (arith, h))
  written-take (x ∷ xs) (o ∷ old) zero (inr h) = absurd (omega (arith, h))
  written-take (x ∷ xs) (o ∷ old) (suc n) (inl h) = ap (λ zs. x ∷ zs) (written-take xs old n (inl (omega (arith, h))))
  written-take (x ∷ xs) (o ∷ old) (suc n) (inr h) = ap (λ zs. x ∷ zs) (written-take xs old n (inr (omega (arith, h))))

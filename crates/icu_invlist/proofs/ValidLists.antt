-- Valid lists are strictly ascending lists of even length.
use Rattle.std.proofs.Common.{◌≡◌, ℕ, ◌+◌, ◌%◌, ◌<◌, ◌≤◌, List, [], ◌∷◌, length, get_or, arith, zero, suc, subst}
use Rattle.std.specs.List.Sorted.{IsStrictlyIncreasing}
use Rattle.std.specs.List.{All}
use Rattle.icu_zerovec.specs.CodePoints.{code_point_limit}
use Rattle.icu_invlist.specs.InversionList.{IsValid}
use Rattle.icu_invlist.specs.Inside.Places.{Run}

run_from : (lo hi : ℕ) (xs : List ℕ) → IsStrictlyIncreasing xs → (0 < length xs → lo ≤ get_or xs 0 0)
    → ((k : ℕ) → k < length xs → get_or xs k 0 < hi) → Run lo hi xs
run_from lo hi [] up low high = tt
run_from lo hi (x ∷ xs) up low high = (
  low (omega arith),
  high 0 (omega arith),
  run_from (suc x) hi xs
      (λ k h. let e : suc k + 1 ≡ suc (k + 1) = omega arith in
      subst (λ (n : ℕ). get_or xs k 0 < get_or (x ∷ xs) n 0) e (up (suc k) (omega arith)))
      (λ h. up 0 (omega arith))
      (λ k h. high (suc k) (omega arith)),
)

pub run_from_valid : (xs : List ℕ) → IsValid xs → Run 0 (suc code_point_limit) xs
run_from_valid xs v = run_from 0 (suc code_point_limit) xs v.ascending (λ h. omega arith) (λ k h. let b = v.within k 0 h in omega arith)

-- A `Run` is strictly ascending.
pub rises : (lo hi : ℕ) (xs : List ℕ) → Run lo hi xs → IsStrictlyIncreasing xs
rises lo hi [] r k h = absurd (omega arith)
rises lo hi (x ∷ []) r k h = absurd (omega arith)
rises lo hi (x ∷ y ∷ ys) r zero h = r.2.0
rises lo hi (x ∷ y ∷ ys) r (suc k) h = let e : suc (k + 1) ≡ suc k + 1 = omega arith in
    subst (λ (n : ℕ). get_or (y ∷ ys) k 0 < get_or (x ∷ y ∷ ys) n 0) e (rises (suc x) hi (y ∷ ys) r.2 k (omega arith))

stays : (lo hi : ℕ) (xs : List ℕ) → Run lo hi xs → All (λ e. e < hi) xs
stays lo hi [] r k d h = absurd (omega arith)
stays lo hi (x ∷ xs) r zero d h = r.1
stays lo hi (x ∷ xs) r (suc k) d h = stays (suc x) hi xs r.2 k d (omega arith)

pub valid_from_run : (xs : List ℕ) → Run 0 (suc code_point_limit) xs → length xs % 2 ≡ 0 → IsValid xs
valid_from_run xs r e = record { even = e; ascending = rises 0 _ xs r; within = λ k d h. let b = stays 0 _ xs r k d h in omega arith }

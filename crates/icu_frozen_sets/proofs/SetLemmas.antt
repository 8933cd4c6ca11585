-- Boundaries that are tested one after another, and how many of them are not above a number.
use Rattle.std.proofs.Common.{◌≡◌, ◌∙◌, ℕ, zero, suc, ◌+◌, ◌-◌, ◌<◌, ◌≤◌, min, Bool, true, false, List, length, take, get_or, add-zero, arith, inl, inr}
use Rattle.std.specs.List.{AllWithin, count_by}
use Rattle.std.specs.List.Sorted.{IsStrictlyIncreasing, IsNonDecreasingBy}
use Rattle.std.proofs.lemmas.Bool.{cases_lt}
use Rattle.std.proofs.lemmas.Grind.{get_or_default_zero}
use Rattle.std.proofs.lemmas.List.Sums.{count_by_more_yes, count_by_more_no}
use Rattle.std.proofs.Math.Seq.{take-length}
use Rattle.std.specs.Prelude.{if◌then◌else◌}
use Rattle.icu_invlist.specs.InversionList.{holds, members_below}

-- Boundaries that rise do not fall.
pub rises : (xs : List ℕ) (i n : ℕ) → IsStrictlyIncreasing xs → i + n < length xs → get_or xs i 0 ≤ get_or xs (i + n) 0
rises xs i zero up l = rw add-zero (omega arith)
rises xs i (suc n) up l =
    let before = rises xs i n up (omega arith) in
    let step = up (i + n) (omega arith) in
    let e : i + suc n ≡ i + n + 1 = omega arith in rw e (omega arith)

pub IsNonDecreasingBy-strictly : (xs : List ℕ) → IsStrictlyIncreasing xs → IsNonDecreasingBy (λ e. e) xs
IsNonDecreasingBy-strictly xs up i j d l m =
    let e : i + (j - i) ≡ j = omega arith in
    let h : get_or xs i 0 ≤ get_or xs j 0 = rw e at (rises xs i (j - i) up (omega arith)) in
    rw (get_or_default_zero xs i d (omega arith), get_or_default_zero xs j d m) h

-- If each element below i passes the test and none from i on does, i elements pass it.
count_front : (p : ℕ → Bool) (xs : List ℕ) (i n : ℕ) → AllWithin (λ y. p y ≡ true) xs 0 i → AllWithin (λ y. p y ≡ false) xs i (length xs)
    → n ≤ length xs → count_by p (take n xs) ≡ min n i
count_front p xs i zero passed failed l = omega arith
count_front p xs i (suc n) passed failed l =
    let before = count_front p xs i n passed failed (omega arith) in
    let e : suc n ≡ n + 1 = omega arith in
    elim (cases_lt n i) [
      | inl h ↦ rw e (let one = count_by_more_yes p xs n 0 (omega arith) (passed n 0 (omega arith) h) in omega arith)
      | inr h ↦ rw e (let same = count_by_more_no p xs n 0 (omega arith) (failed n 0 h (omega arith)) in omega arith)
    ]

pub count-at : (p : ℕ → Bool) (xs : List ℕ) (i : ℕ) → AllWithin (λ y. p y ≡ true) xs 0 i → AllWithin (λ y. p y ≡ false) xs i (length xs)
    → i ≤ length xs → count_by p xs ≡ i
count-at p xs i passed failed l =
    let whole : count_by p (take (length xs) xs) ≡ min (length xs) i = count_front p xs i (length xs) passed failed (omega arith) in
    let least : min (length xs) i ≡ i = omega arith in
    (rw take-length at whole) ∙ least

-- A set has no more members below n than there are numbers.
pub members_below-le : (ends : List ℕ) (n : ℕ) → members_below ends n ≤ n
unfolding members_below
members_below-le ends zero = omega arith
members_below-le ends (suc n) = let before = members_below-le ends n in one_more (holds ends n) (members_below ends n) n before
  where
    one_more : (b : Bool) (k n : ℕ) → k ≤ n → k + (if b then 1 else 0) ≤ suc n
    one_more true k n h = omega arith
    one_more false k n h = omega arith

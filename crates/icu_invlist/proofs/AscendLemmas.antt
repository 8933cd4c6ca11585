-- A list of numbers that is tested pair by pair.
use Rattle.std.proofs.Common.{◌≡◌, ℕ, zero, suc, ◌+◌, ◌-◌, ◌<◌, ◌≤◌, Bool, true, false, not, List, length, get_or, add-zero, refl, arith}
use Rattle.std.specs.List.{All}
use Rattle.std.specs.List.Sorted.{IsStrictlyIncreasing}
use Rattle.std.proofs.lemmas.Grind.{get_or_default_zero}

-- The numbers below index i ascend strictly.
abbrev pub UpTo : List ℕ → ℕ → Type 0
UpTo xs i = (k : ℕ) → k + 1 < i → get_or xs k 0 < get_or xs (k + 1) 0

pub false_if_not : (b : Bool) → not b ≡ true → b ≡ false
false_if_not true h = absurd (cc h)
false_if_not false h = refl

pub not_if_false : (b : Bool) → b ≡ false → not b ≡ true
not_if_false b h = rw h refl

-- Numbers that ascend do not fall.
pub rises : (xs : List ℕ) (i n : ℕ) → IsStrictlyIncreasing xs → i + n < length xs → get_or xs i 0 ≤ get_or xs (i + n) 0
rises xs i zero up l = rw add-zero (omega arith)
rises xs i (suc n) up l =
    let before = rises xs i n up (omega arith) in
    let step = up (i + n) (omega arith) in
    let e : i + suc n ≡ i + n + 1 = omega arith in rw e (omega arith)

-- If the last of them is at most n, all are.
pub all_within : (xs : List ℕ) (last n : ℕ) → IsStrictlyIncreasing xs → last ≡ get_or xs (length xs - 1) 0 → last ≤ n → All (λ e. e ≤ n) xs
all_within xs last n up e l = λ k d m.
    let top = rises xs k (length xs - 1 - k) up (omega arith) in
    let at : k + (length xs - 1 - k) ≡ length xs - 1 = omega arith in
    let h : get_or xs k 0 ≤ get_or xs (length xs - 1) 0 = rw at at top in
    rw (get_or_default_zero xs k d m) (omega arith)

-- Tests of ranges, and of a bit of a word.
use Rattle.std.proofs.Common.{◌≡◌, ◌∙◌, ℕ, ◌+◌, ◌/◌, ◌^◌, ◌<◌, ◌≤◌, refl, ap, sym, arith, Bool, true, false, inl, inr}
use Rattle.std.specs.Int.{bit_at}
use lib.Bits.{bit_and}
use Rattle.std.specs.Prelude.{nat_eq, ◌||◌}
use Rattle.std.proofs.lemmas.Bool.{cases_lt, lt-ltb, le-ltb, le-leb, lt-leb, and_from, and_left, and_right}
use Rattle.std.proofs.lemmas.Nat.Bits.{shr_and_one}
use Rattle.icu_invlist.specs.InversionList.{between}

-- ---- tests
pub or_false : (b : Bool) → (b || false) ≡ b
or_false true = refl
or_false false = refl

pub or_true : (b : Bool) → (b || true) ≡ true
or_true true = refl
or_true false = refl

pub between_in : (start end c : ℕ) → start ≤ c → c < end → between start end c ≡ true
between_in start end c l h = and_from _ _ (le-leb start c l) (lt-ltb c end h)

pub between_before : (start end c : ℕ) → c < start → between start end c ≡ false
between_before start end c h = and_left _ _ (lt-leb start c h)

pub between_after : (start end c : ℕ) → end ≤ c → between start end c ≡ false
between_after start end c h = and_right _ _ (le-ltb c end h)

pub between_more : (start end c : ℕ) → (c ≡ end → ⊥) → between start end c ≡ between start (end + 1) c
between_more start end c n = elim (cases_lt c start) [
  | inl h ↦ between_before start end c h ∙ sym (between_before start (end + 1) c h)
  | inr h ↦ elim (cases_lt c end) [
    | inl m ↦ between_in start end c h m ∙ sym (between_in start (end + 1) c h (omega (arith, m)))
    | inr m ↦ between_after start end c m ∙ sym (between_after start (end + 1) c (omega (arith, m, n)))
  ]
]

-- ---- a word
pub bit_tested : (word k : ℕ) → nat_eq (bit_and (word / 2 ^ k) 1) 1 ≡ nat_eq (bit_at word k) 1
bit_tested word k = ap (λ (n : ℕ). nat_eq n 1) (shr_and_one word k)

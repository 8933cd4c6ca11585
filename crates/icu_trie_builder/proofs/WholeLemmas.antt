-- The values of the numbers in a builder.
use Rattle.std.specs.List.{All}
use Rattle.std.proofs.lemmas.Bool.{cases_lt}
use Rattle.std.proofs.Common.{subst, ◌≡◌, ℕ, ◌<◌, ◌≤◌, List, length, get_or, Option, Some, unwrap_or, arith, ap, sym, inl, inr}
use Rattle.std.proofs.lemmas.List.{get_or-map, get_or_default}
use Rattle.icu_trie_builder.specs.CodePointMap.{IsNumberOf, value_of_number, values_of_numbers}
use Rattle.icu_trie_builder.specs.Inside.ValuesOfNumbers.{number_value}

module _ {T : Type 0} (of_number : ℕ → Option T) (default : T) where
  -- The value of a code point is that of its number.
  pub number_value-at : (numbers : List ℕ) (c : ℕ) → c < length numbers
      → number_value of_number default numbers c ≡ value_of_number of_number default (get_or numbers c 0)
  unfolding values_of_numbers
  number_value-at numbers c l = get_or-map (value_of_number of_number default) numbers c 0 default l

  module _ (V : T → Type 0) (number : T → ℕ) (back : (x : T) → V x → of_number (number x) ≡ Some x) where
    -- The number of a value gives the value.
    pub value_of_number-back : (x : T) → V x → value_of_number of_number default (number x) ≡ x
    value_of_number-back x v = ap (λ o. unwrap_or o default) (back x v)

    -- If a number belongs to a value, it is that value's number.
    pub number-back : (n : ℕ) → IsNumberOf V number n → number (value_of_number of_number default n) ≡ n
    number-back n w = subst (λ m. number (value_of_number of_number default m) ≡ m) w.2 (ap number (value_of_number-back w.0 w.1))

    -- What a number gives is a value.
    pub value-back : (n : ℕ) → IsNumberOf V number n → V (value_of_number of_number default n)
    value-back n w = subst (λ m. V (value_of_number of_number default m)) w.2 (subst V (sym (value_of_number-back w.0 w.1)) w.1)

-- Numbers with a property, after a part of them was filled with one that has it.
pub All-filled : (P : ℕ → Type 0) (made filled : List ℕ) (start end n : ℕ) → All P made → P n → length filled ≡ length made
    → ((k : ℕ) → start ≤ k → k < end → get_or filled k 0 ≡ n)
    → ((k : ℕ) → k < start → get_or filled k 0 ≡ get_or made k 0)
    → ((k : ℕ) → end ≤ k → get_or filled k 0 ≡ get_or made k 0)
    → All P filled
All-filled P made filled start end n h value len inside before after =
    λ k e l. subst P (get_or_default filled k 0 e l) (elim (cases_lt k start) [
      | inl low ↦ subst P (sym (before k low)) (h k 0 (omega (arith, l, len)))
      | inr from ↦ elim (cases_lt k end) [
        | inl below ↦ subst P (sym (inside k from below)) value
        | inr past ↦ subst P (sym (after k past)) (h k 0 (omega (arith, l, len)))
      ]
    ])

-- Runs of ones in the words of a frozen set.
use Rattle.std.proofs.Common.{◌≡◌, ◌∙◌, ℕ, ◌+◌, ◌-◌, ◌/◌, ◌%◌, ◌^◌, ◌<◌, ◌≤◌, List, get_or, ap, sym, arith, true, false, inl, inr}
use Rattle.std.specs.Int.{bit_at, trailing_ones, w64}
use Rattle.std.specs.Prelude.{nat_eq}
use Rattle.std.proofs.Math.Nat.{div-div-eq-div-mul, div-le_self}
use Rattle.std.proofs.lemmas.Bool.{cases_lt}
use lib.Count.{count_trailing_zeros}
use Rattle.std.proofs.lemmas.Nat.{pow-add}
use Rattle.std.proofs.lemmas.Nat.Bits.{bit_at_above, bit_at_ones, bit_at-trailing_ones}
use Rattle.icu_frozen_sets.specs.FrozenWords.{bit_in, place_in}
use Rattle.icu_frozen_sets.proofs.BlockLemmas.{bit_by_place, bit_of_uniform}

-- ---- a word
shifted : (n k i : ℕ) → bit_at (n / 2 ^ k) i ≡ bit_at n (k + i)
shifted n k i = ap (λ (m : ℕ). m % 2) (div-div-eq-div-mul n (2 ^ k) (2 ^ i) ∙ ap (λ (p : ℕ). n / p) (sym (pow-add 2 k i)))

module _ (word s : ℕ) (fits : word < 2 ^ 64) where
  abbrev shift : ℕ
  shift = word / 2 ^ s

  -- The bits above the word are zeros, so a one is in the word.
  inside : (i : ℕ) → bit_at shift i ≡ 1 → (s + i < 64) × (bit_at word (s + i) ≡ 1)
  inside i e =
      let one : bit_at word (s + i) ≡ 1 = sym (shifted word s i) ∙ e in
      elim (cases_lt (s + i) 64) [
        | inl h ↦ (h, one)
        | inr l ↦ absurd (let z = bit_at_above word 64 (s + i) fits l in omega arith)
      ]

  small : shift ≤ word
  small = div-le_self word (2 ^ s)

  -- A word of ones has 64.
  all_ones : shift ≡ 2 ^ 64 - 1 → trailing_ones w64 shift ≡ 64
  unfolding count_trailing_zeros
  all_ones e = ap (λ (n : ℕ). trailing_ones w64 n) e

  pub run_ones : (i : ℕ) → i < trailing_ones w64 shift → (s + i < 64) × (bit_at word (s + i) ≡ 1)
  run_ones i h = inside i (elim (cases_lt (shift + 1) (2 ^ 64)) [
    | inl l ↦ (bit_at-trailing_ones w64 shift l).2 i h
    | inr l ↦ (let e : shift ≡ 2 ^ 64 - 1 = omega (arith, small) in
        ap (λ (n : ℕ). bit_at n i) e ∙ bit_at_ones 64 i (omega (arith, all_ones e)))
  ])

  pub run_stops : s + trailing_ones w64 shift < 64 → bit_at word (s + trailing_ones w64 shift) ≡ 0
  run_stops h = elim (cases_lt (shift + 1) (2 ^ 64)) [
    | inl l ↦ sym (shifted word s (trailing_ones w64 shift)) ∙ (bit_at-trailing_ones w64 shift l).1
    | inr l ↦ absurd (let f : shift ≡ 2 ^ 64 - 1 = omega (arith, small) in omega (arith, all_ones f, h))
  ]

-- ---- the run of a code point
-- All words of its block are ones.
pub ones_of_full : (t : List ℕ) (c k : ℕ) → ((j : ℕ) → j < 16 → get_or t (place_in t (c / 1024) + j) 0 ≡ 2 ^ 64 - 1)
    → k / 1024 ≡ c / 1024 → bit_in t k ≡ true
ones_of_full t c k all q =
    bit_by_place t k (place_in t (c / 1024)) (ap (λ (b : ℕ). place_in t b) q)
    ∙ bit_of_uniform true _ (k % 64) (all (k / 64 % 16) (omega arith)) (omega arith)

module _ (t : List ℕ) (c word run : ℕ) (there : word ≡ get_or t (place_in t (c / 1024) + c / 64 % 16) 0) where
  bit_here : (k i : ℕ) → k / 64 ≡ c / 64 → k % 64 ≡ i → bit_in t k ≡ nat_eq (bit_at word i) 1
  bit_here k i q r =
      let b : k / 1024 ≡ c / 1024 = omega arith in
      bit_by_place t k (place_in t (c / 1024)) (ap (λ (n : ℕ). place_in t n) b)
      ∙ (ap (λ (n : ℕ). nat_eq (bit_at (get_or t (place_in t (c / 1024) + n % 16) 0) (k % 64)) 1) q
      ∙ (ap (λ (n : ℕ). nat_eq (bit_at n (k % 64)) 1) (sym there)
      ∙ ap (λ (n : ℕ). nat_eq (bit_at word n) 1) r))

  pub ones_of_word : ((i : ℕ) → i < run → (c % 64 + i < 64) × (bit_at word (c % 64 + i) ≡ 1))
      → (k : ℕ) → c ≤ k → k < c + run → bit_in t k ≡ true
  ones_of_word ones k l h =
      let o = ones (k - c) (omega arith) in
      bit_here k (c % 64 + (k - c)) (omega (arith, o.0)) (omega (arith, o.0)) ∙ ap (λ (n : ℕ). nat_eq n 1) o.1

  pub stops_at_word : (i : ℕ) → c % 64 + i < 64 → bit_at word (c % 64 + i) ≡ 0 → bit_in t (c + i) ≡ false
  stops_at_word i h e = bit_here (c + i) (c % 64 + i) (omega (arith, h)) (omega (arith, h)) ∙ ap (λ (n : ℕ). nat_eq n 1) e

-- What the kinds of a span remember: the bits of ASCII, and the range between two boundaries.
use Rattle.std.proofs.Common.{◌≡◌, ◌∙◌, sym, ap, refl, ℕ, zero, suc, ◌+◌, ◌-◌, ◌/◌, ◌%◌, ◌^◌, ◌<◌, ◌≤◌, Bool, true, false, List, [], ◌∷◌, length, take, get_or, arith, inl, inr, w64}
use Rattle.std.specs.Prelude.{nat_le, ◌==◌, ◌&&◌}
use Rattle.std.specs.Int.{bit_at, bit_not}
use mathlib.Core.Bool.{beq}
use Rattle.std.specs.List.{AllWithin}
use Rattle.std.specs.List.Sorted.{IsStrictlyIncreasing}
use Rattle.std.proofs.lemmas.Bool.{cases_lt, leb-true, leb-false, le-leb, lt-leb, lt-ltb}
use Rattle.std.proofs.lemmas.Grind.{get_or_default_zero}
use Rattle.std.proofs.lemmas.List.{get_or-take, length-take-le}
use Rattle.std.proofs.lemmas.Nat.Bits.{bit_at-lt, bit_at_not}
use Rattle.icu_zerovec.specs.CodePoints.{code_point_limit}
use Rattle.icu_invlist.specs.InversionList.{ends_up_to, holds, is_odd}
use Rattle.icu_frozen_sets.specs.FrozenWords.{bit_in, is_held, place_in}
use Rattle.icu_frozen_sets.specs.Inside.SpanConditions.{HasAscii}
use Rattle.icu_frozen_sets.proofs.SetLemmas.{count-at, rises}

-- ---- between two boundaries
pub ascending_front : (ends : List ℕ) (most : ℕ) → most ≤ length ends → IsStrictlyIncreasing ends → IsStrictlyIncreasing (take most ends)
ascending_front ends most l up k m =
    let long = length-take-le most ends l in
    rw (get_or-take most ends k 0 (omega (arith, long, m)), get_or-take most ends (k + 1) 0 (omega (arith, long, m)))
    (up k (omega (arith, long, m)))

-- As the boundaries ascend, the one at index i is at least i.
at_least : (ends : List ℕ) (i : ℕ) → IsStrictlyIncreasing ends → i < length ends → i ≤ get_or ends i 0
at_least ends zero up l = omega arith
at_least ends (suc i) up l =
    let before = at_least ends i up (omega arith) in
    let step = up i (omega arith) in
    let e : suc i ≡ i + 1 = omega arith in rw e (omega arith)

-- n boundaries are not above d.
pub holds_at : (ends : List ℕ) (n d : ℕ) → IsStrictlyIncreasing ends → n ≤ length ends → (0 < n → get_or ends (n - 1) 0 ≤ d)
    → (n < length ends → d < get_or ends n 0) → holds ends d ≡ is_odd n
unfolding ends_up_to
holds_at ends n d up l below above =
    let p : ℕ → Bool = λ e. nat_le e d in
    let passed : AllWithin (λ y. p y ≡ true) ends 0 n = λ k z low high.
    let far : k + (n - 1 - k) ≡ n - 1 = omega arith in
    let most : get_or ends k 0 ≤ get_or ends (n - 1) 0 =
    rw far at (rises ends k (n - 1 - k) up (omega arith)) in
    rw (get_or_default_zero ends k z (omega arith)) (le-leb _ _ (omega (arith, most, below (omega arith)))) in
    let failed : AllWithin (λ y. p y ≡ false) ends n (length ends) = λ k z low high.
    let far : n + (k - n) ≡ k = omega arith in
    let least : get_or ends n 0 ≤ get_or ends k 0 = rw far at (rises ends n (k - n) up (omega arith)) in
    rw (get_or_default_zero ends k z high) (lt-leb _ _ (omega (arith, least, above (omega arith)))) in
    ap is_odd (count-at p ends n passed failed l)

-- What the search among the first boundaries finds.
module _ (ends : List ℕ) (c most n : ℕ) (up : IsStrictlyIncreasing ends) (few : most ≤ length ends)
    (enough : most < length ends → c < most) (within : n ≤ most)
    (passed : AllWithin (λ e. nat_le e c ≡ true) (take most ends) 0 n)
    (failed : AllWithin (λ e. nat_le e c ≡ false) (take most ends) n most) where
  pub last_below : 0 < n → get_or ends (n - 1) 0 ≤ c
  last_below some =
      let e : nat_le (get_or (take most ends) (n - 1) 0) c ≡ true = passed (n - 1) 0 (omega arith) (omega arith) in
      leb-true _ _ (rw (get_or-take most ends (n - 1) 0 (omega arith)) at e)

  pub first_above : n < length ends → c < get_or ends n 0
  first_above more = elim (cases_lt n most) [
    | inl inside ↦
        let e : nat_le (get_or (take most ends) n 0) c ≡ false = failed n 0 (omega arith) inside in
        leb-false _ _ (rw (get_or-take most ends n 0 inside) at e)
    | inr past ↦ omega (arith, at_least ends n up more, enough (omega arith))
  ]

-- ---- bits of ASCII
turned_bit : (b k : ℕ) → b < 2 → k ≡ 1 - b → (k == 1) ≡ beq (b == 1) false
turned_bit zero k l e = rw e refl
turned_bit (suc zero) k l e = rw e refl
turned_bit (suc (suc b)) k l e = absurd (omega arith)

pub turned_word : (word i : ℕ) → word < 2 ^ 64 → i < 64 → (bit_at (bit_not w64 word) i == 1) ≡ beq (bit_at word i == 1) false
turned_word word i l m = turned_bit (bit_at word i) (bit_at (bit_not w64 word) i) (bit_at-lt word i) (bit_at_not w64 word i l m)

pub same_word : (word i : ℕ) → (bit_at word i == 1) ≡ beq (bit_at word i == 1) true
same_word word i = same_bool (bit_at word i == 1)
  where
    same_bool : (b : Bool) → b ≡ beq b true
    same_bool true = refl
    same_bool false = refl

pub has_ascii : (table : List ℕ) (held : Bool) (place w v t u : ℕ) → place ≡ place_in table 0 → w ≡ get_or table place 0
    → v ≡ get_or table (place + 1) 0 → ((i : ℕ) → i < 64 → (bit_at t i == 1) ≡ beq (bit_at w i == 1) held)
    → ((i : ℕ) → i < 64 → (bit_at u i == 1) ≡ beq (bit_at v i == 1) held) → HasAscii table held (t ∷ u ∷ [])
has_ascii table held place w v t u p e f low high c l =
    let block : c / 1024 ≡ 0 = omega arith in
    let inside : is_held table c ≡ bit_in table c =
    ap (λ (b : Bool). b && bit_in table c) (lt-ltb c code_point_limit (omega arith)) in
    elim (cases_lt c 64) [
      | inl h ↦
          let word : c / 64 ≡ 0 = omega arith in
          let at : place_in table (c / 1024) + c / 64 % 16 ≡ place = rw (block, word) (omega (arith, p)) in
          let bit : bit_in table c ≡ (bit_at w (c % 64) == 1) =
          ap (λ (k : ℕ). bit_at (get_or table k 0) (c % 64) == 1) at ∙ ap (λ (k : ℕ). bit_at k (c % 64) == 1) (sym e) in
          ap (λ (k : ℕ). bit_at (get_or (t ∷ u ∷ []) k 0) (c % 64) == 1) word
          ∙ (low (c % 64) (omega arith) ∙ ap (λ (b : Bool). beq b held) (sym (inside ∙ bit)))
      | inr h ↦
          let word : c / 64 ≡ 1 = omega arith in
          let at : place_in table (c / 1024) + c / 64 % 16 ≡ place + 1 = rw (block, word) (omega (arith, p)) in
          let bit : bit_in table c ≡ (bit_at v (c % 64) == 1) =
          ap (λ (k : ℕ). bit_at (get_or table k 0) (c % 64) == 1) at ∙ ap (λ (k : ℕ). bit_at k (c % 64) == 1) (sym f) in
          ap (λ (k : ℕ). bit_at (get_or (t ∷ u ∷ []) k 0) (c % 64) == 1) word
          ∙ (high (c % 64) (omega arith) ∙ ap (λ (b : Bool). beq b held) (sym (inside ∙ bit)))
    ]

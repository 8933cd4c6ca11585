-- Look-ups in the words of a frozen set.
use Rattle.std.proofs.Common.{◌≡◌, ◌∙◌, ap, sym, subst, ℕ, ◌+◌, ◌-◌, ◌*◌, ◌/◌, ◌%◌, ◌^◌, ◌<◌, min, Bool, List, [], ◌++◌, append-nil, length, get_or, set, arith, inl, inr}
use Rattle.std.specs.Int.{bit_at}
use Rattle.std.specs.Prelude.{nat_eq, ◌&&◌}
use Rattle.std.proofs.lemmas.Bool.{cases_eq, cases_lt, lt-ltb, le-ltb, and_left}
use Rattle.std.proofs.lemmas.Grind.{get_or-set_at}
use Rattle.std.proofs.lemmas.List.{get_or-set_other, get_or_append_left, length-set}
use Rattle.icu_zerovec.specs.CodePoints.{code_point_limit}
use Rattle.icu_invlist.specs.InversionList.{holds}
use Rattle.icu_invlist.proofs.CallerLemmas.{not_past_limit}
use Rattle.icu_frozen_sets.specs.FrozenWords.{IsFrozenOf, bit_in, is_held, offset_at, offset_words, place_in}
use Rattle.icu_frozen_sets.specs.Inside.Filling.{bit_among}

module _ (ends words rest : List ℕ) (f : IsFrozenOf ends words) where
  as_many : offset_words (words ++ rest) ≡ offset_words words
  as_many =
      let s = f.some in
      let l = f.offsets in
      ap (λ (w : ℕ). w % 2 ^ 32) (get_or_append_left words rest 0 0 (omega (arith, s, l)))

  same_place : (b : ℕ) → place_in (words ++ rest) b ≡ place_in words b
  same_place b =
      let s = f.some in
      let l = f.offsets in
      let k : ℕ = min b (offset_words words - 1) in
      ap (λ (n : ℕ). offset_at (words ++ rest) (min b (n - 1))) as_many
      ∙ ap (λ (w : ℕ). w % 2 ^ 32) (get_or_append_left words rest 0 k (omega (arith, s, l)))

  same_bit : (c : ℕ) → c < code_point_limit → bit_in (words ++ rest) c ≡ bit_in words c
  same_bit c l =
      let p = f.placed (c / 1024) (omega arith) in
      ap (λ (k : ℕ). nat_eq (bit_at (get_or (words ++ rest) (k + c / 64 % 16) 0) (c % 64)) 1) (same_place (c / 1024))
      ∙ ap (λ (w : ℕ). nat_eq (bit_at w (c % 64)) 1)
      (get_or_append_left words rest 0 (place_in words (c / 1024) + c / 64 % 16) (omega (arith, p)))

  pub held_of : (c : ℕ) → is_held (words ++ rest) c ≡ holds ends c
  held_of c = elim (cases_lt c code_point_limit) [
    | inl l ↦ ap (λ (b : Bool). b && bit_in (words ++ rest) c) (lt-ltb c code_point_limit l) ∙ (same_bit c l ∙ f.bits c l)
    | inr l ↦ and_left _ _ (le-ltb c code_point_limit l) ∙ sym (not_past_limit ends c f.valid l)
  ]

  -- The prefix that the words choose is the one that the set chooses.
  front_of_set : (P : (ℕ → Bool) → Type 0) → P (is_held (words ++ rest)) → P (holds ends)
  front_of_set P = subst P (λ i. λ (c : ℕ). held_of c i)

-- What is true of the set in the words is true of the set with these boundaries.
pub of_set : (table ends words rest : List ℕ) → IsFrozenOf ends words → table ≡ words ++ rest → (P : (ℕ → Bool) → Type 0)
    → P (is_held table) → P (holds ends)
of_set table ends words rest f e P h = front_of_set ends words rest f P (subst (λ (t : List ℕ). P (is_held t)) e h)

-- The same without words after the set.
pub held_in : (ends words : List ℕ) → IsFrozenOf ends words → (c : ℕ) → is_held words c ≡ holds ends c
held_in ends words f c = ap (λ (t : List ℕ). is_held t c) (sym (append-nil words)) ∙ held_of ends words [] f c

-- ---- the word of a bit
pub bit_read : (t : List ℕ) (upper lower place word : ℕ) → lower < 64 → place ≡ place_in t (upper / 16)
    → word ≡ get_or t (place + upper % 16) 0 → nat_eq (bit_at word lower) 1 ≡ bit_in t (64 * upper + lower)
bit_read t upper lower place word small p w =
    let c : ℕ = 64 * upper + lower in
    let block : upper / 16 ≡ c / 1024 = omega arith in
    let part : upper % 16 ≡ c / 64 % 16 = omega arith in
    let low : lower ≡ c % 64 = omega arith in
    let found : word ≡ get_or t (place_in t (c / 1024) + c / 64 % 16) 0 =
    w ∙ (ap (λ (k : ℕ). get_or t (k + upper % 16) 0) (p ∙ ap (λ (b : ℕ). place_in t b) block)
    ∙ ap (λ (k : ℕ). get_or t (place_in t (c / 1024) + k) 0) part) in
    ap (λ (n : ℕ). nat_eq (bit_at n lower) 1) found
    ∙ ap (λ (k : ℕ). nat_eq (bit_at (get_or t (place_in t (c / 1024) + c / 64 % 16) 0) k) 1) low

-- ---- the words of the first two blocks
-- One more word of each is written.
module _ (t words : List ℕ) (place k low high : ℕ) (long : length words ≡ 32) (few : k < 16) where
  pub low_more : low ≡ get_or t (place + k) 0 → ((i : ℕ) → i < k → get_or words i 0 ≡ get_or t (place + i) 0)
      → (i : ℕ) → i < k + 1 → get_or (set (set words k low) (k + 16) high) i 0 ≡ get_or t (place + i) 0
  low_more is before i l = get_or-set_other (set words k low) (k + 16) i high 0 (λ e. omega (arith, e, l)) ∙ elim (cases_eq i k) [
    | inl q ↦ get_or-set_at words k i low 0 q (omega (arith, long, few)) ∙ (is ∙ ap (λ (j : ℕ). get_or t (place + j) 0) (sym q))
    | inr q ↦ get_or-set_other words k i low 0 q ∙ before i (omega (arith, l, q))
  ]

  pub high_more : high ≡ get_or t (place + k) 0 → ((i : ℕ) → i < k → get_or words (i + 16) 0 ≡ get_or t (place + i) 0)
      → (i : ℕ) → i < k + 1 → get_or (set (set words k low) (k + 16) high) (i + 16) 0 ≡ get_or t (place + i) 0
  high_more is before i l = elim (cases_eq i k) [
    | inl q ↦ get_or-set_at (set words k low) (k + 16) (i + 16) high 0 (ap (λ (j : ℕ). j + 16) q)
        (omega (arith, long, few, length-set words k low)) ∙ (is ∙ ap (λ (j : ℕ). get_or t (place + j) 0) (sym q))
    | inr q ↦ get_or-set_other (set words k low) (k + 16) (i + 16) high 0 (λ e. q (omega (arith, e)))
        ∙ (get_or-set_other words k (i + 16) low 0 (λ e. omega (arith, e, few)) ∙ before i (omega (arith, l, q)))
  ]

pub first_bits : (t words : List ℕ) (first second : ℕ) → first ≡ place_in t 0 → second ≡ place_in t 1
    → ((i : ℕ) → i < 16 → get_or words i 0 ≡ get_or t (first + i) 0)
    → ((i : ℕ) → i < 16 → get_or words (i + 16) 0 ≡ get_or t (second + i) 0)
    → (c : ℕ) → c < 2048 → bit_among words c ≡ bit_in t c
first_bits t words first second f s low high c l = ap (λ (w : ℕ). nat_eq (bit_at w (c % 64)) 1) (elim (cases_lt c 1024) [
  | inl h ↦
      let block : c / 1024 ≡ 0 = omega (arith, h) in
      let part : c / 64 ≡ c / 64 % 16 = omega (arith, h) in
      ap (λ (k : ℕ). get_or words k 0) part ∙ (low (c / 64 % 16) (omega arith)
      ∙ ap (λ (p : ℕ). get_or t (p + c / 64 % 16) 0) (f ∙ ap (λ (b : ℕ). place_in t b) (sym block)))
  | inr h ↦
      let block : c / 1024 ≡ 1 = omega (arith, h, l) in
      let part : c / 64 ≡ c / 64 % 16 + 16 = omega (arith, h, l) in
      ap (λ (k : ℕ). get_or words k 0) part ∙ (high (c / 64 % 16) (omega arith)
      ∙ ap (λ (p : ℕ). get_or t (p + c / 64 % 16) 0) (s ∙ ap (λ (b : ℕ). place_in t b) (sym block)))
])

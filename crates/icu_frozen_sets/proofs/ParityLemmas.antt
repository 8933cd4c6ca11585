-- The bits of a block by the parity of the boundaries before them.
use Rattle.std.proofs.Common.{◌≡◌, ◌∙◌, ℕ, ◌+◌, ◌-◌, ◌*◌, ◌/◌, ◌%◌, ◌^◌, ◌<◌, ◌≤◌, List, length, get_or, set, replicate, refl, ap, sym, add-one, arith, zero, suc, Bool, true, false, not, bit_xor, inl, inr}
use Rattle.std.specs.Int.{bit_at}
use Rattle.std.specs.Prelude.{nat_eq}
use Rattle.std.proofs.lemmas.Bool.{cases_eq, cases_lt, eq-eqb, ne_eqb}
use Rattle.std.proofs.lemmas.Grind.{get_or-set_at}
use Rattle.std.proofs.lemmas.List.{get_or_past, get_or-replicate, get_or-set_other, length-set}
use Rattle.std.proofs.lemmas.Nat.Bits.{bit_at-lt, bit_at_mask_below, bit_at_mask_inside, bit_at_ones, bit_at_xor, bit_at-zero, same_from_bits_below}
use Rattle.icu_frozen_sets.specs.Inside.Filling.{IsOnly, block_bit, is_odd_at, last_bits}

-- ---- parity
-- One more changes the parity.
odd_more : (n m : ℕ) → n % 2 ≡ (m + 1) % 2 → nat_eq (n % 2) 1 ≡ not (nat_eq (m % 2) 1)
odd_more n m e = elim (cases_eq (m % 2) 1) [
  | inl q ↦ ne_eqb (n % 2) 1 (λ p. omega (arith, e, q, p)) ∙ sym (ap not (eq-eqb (m % 2) 1 q))
  | inr q ↦ eq-eqb (n % 2) 1 (omega (arith, e, q)) ∙ sym (ap not (ne_eqb (m % 2) 1 q))
]

-- ---- a boundary more
module _ (block : List ℕ) (c word : ℕ) (there : c / 64 % 16 < length block)
    (is : word ≡ bit_xor (get_or block (c / 64 % 16) 0) (2 ^ 64 - 2 ^ (c % 64))) where
  other_word : (w : ℕ) → (w ≡ c / 64 % 16 → ⊥) → get_or (set block (c / 64 % 16) word) w 0 ≡ get_or block w 0
  other_word w n = get_or-set_other block (c / 64 % 16) w word 0 n

  -- The bits of the word of c from c on flip.
  bit_below : (w k : ℕ) → w ≡ c / 64 % 16 → k < c % 64
      → bit_at (get_or (set block (c / 64 % 16) word) w 0) k ≡ bit_at (get_or block w 0) k
  bit_below w k q l =
      let put : get_or (set block (c / 64 % 16) word) w 0 ≡ word = get_or-set_at block (c / 64 % 16) w word 0 q there in
      let old : get_or block w 0 ≡ get_or block (c / 64 % 16) 0 = ap (λ (i : ℕ). get_or block i 0) q in
      ap (λ (n : ℕ). bit_at n k) (put ∙ is) ∙ (bit_at_xor (get_or block (c / 64 % 16) 0) (2 ^ 64 - 2 ^ (c % 64)) k
      ∙ (let none = bit_at_mask_below (c % 64) 64 k l in let two = bit_at-lt (get_or block (c / 64 % 16) 0) k in
      omega (arith, none, two)) ∙ sym (ap (λ (n : ℕ). bit_at n k) old))

  bit_from : (w k : ℕ) → w ≡ c / 64 % 16 → c % 64 ≤ k → k < 64
      → bit_at (get_or (set block (c / 64 % 16) word) w 0) k ≡ (bit_at (get_or block w 0) k + 1) % 2
  bit_from w k q l h =
      let put : get_or (set block (c / 64 % 16) word) w 0 ≡ word = get_or-set_at block (c / 64 % 16) w word 0 q there in
      let old : get_or block w 0 ≡ get_or block (c / 64 % 16) 0 = ap (λ (i : ℕ). get_or block i 0) q in
      ap (λ (n : ℕ). bit_at n k) (put ∙ is) ∙ (bit_at_xor (get_or block (c / 64 % 16) 0) (2 ^ 64 - 2 ^ (c % 64)) k
      ∙ (ap (λ (n : ℕ). (bit_at (get_or block (c / 64 % 16) 0) k + n) % 2) (bit_at_mask_inside (c % 64) 64 k l h)
      ∙ sym (ap (λ (n : ℕ). (bit_at n k + 1) % 2) old)))

  -- The words after it have one more before them.
  last_bits_before : (w : ℕ) → w ≤ c / 64 % 16 → last_bits (set block (c / 64 % 16) word) w ≡ last_bits block w
  unfolding last_bits
  last_bits_before zero h = refl
  last_bits_before (suc w) h =
      let same = other_word w (λ e. omega (arith, e, h)) in
      ap (λ (n : ℕ). n + bit_at (get_or (set block (c / 64 % 16) word) w 0) 63) (last_bits_before w (omega (arith, h)))
      ∙ ap (λ (n : ℕ). last_bits block w + bit_at n 63) same

  last_bits_after : (w : ℕ) → c / 64 % 16 < w → last_bits (set block (c / 64 % 16) word) w % 2 ≡ (last_bits block w + 1) % 2
  unfolding last_bits
  last_bits_after zero h = absurd (omega (arith, h))
  last_bits_after (suc w) h = elim (cases_eq w (c / 64 % 16)) [
    | inl q ↦ (let before = last_bits_before w (omega (arith, q)) in let bit = bit_from w 63 q (omega arith) (omega arith) in
        omega (arith, before, bit))
    | inr n ↦ (let before = last_bits_after w (omega (arith, h, n)) in
        let bit = ap (λ (n : ℕ). bit_at n 63) (other_word w n) in omega (arith, before, bit))
  ]

  pub odd_before : (d : ℕ) → d % 1024 < c % 1024 → is_odd_at (set block (c / 64 % 16) word) d ≡ is_odd_at block d
  unfolding is_odd_at
  odd_before d h =
      let last = last_bits_before (d / 64 % 16) (omega (arith, h)) in
      elim (cases_eq (d / 64 % 16) (c / 64 % 16)) [
        | inl q ↦ (let bit = bit_below (d / 64 % 16) (d % 64) q (omega (arith, q, h)) in
            ap (λ (n : ℕ). nat_eq (n % 2) 1) (omega (arith, last, bit)))
        | inr n ↦ (let bit = ap (λ (w : ℕ). bit_at w (d % 64)) (other_word (d / 64 % 16) n) in
            ap (λ (n : ℕ). nat_eq (n % 2) 1) (omega (arith, last, bit)))
      ]

  pub odd_from : (d : ℕ) → c % 1024 ≤ d % 1024 → is_odd_at (set block (c / 64 % 16) word) d ≡ not (is_odd_at block d)
  unfolding is_odd_at
  odd_from d h = elim (cases_eq (d / 64 % 16) (c / 64 % 16)) [
    | inl q ↦ (let last = last_bits_before (d / 64 % 16) (omega (arith, q)) in
        let bit = bit_from (d / 64 % 16) (d % 64) q (omega (arith, q, h)) (omega arith) in
        odd_more _ _ (omega (arith, last, bit)))
    | inr n ↦ (let last = last_bits_after (d / 64 % 16) (omega (arith, n, h)) in
        let bit = ap (λ (w : ℕ). bit_at w (d % 64)) (other_word (d / 64 % 16) n) in
        odd_more _ _ (omega (arith, last, bit)))
  ]

-- ---- no boundary
no_words : (i : ℕ) → let block : List ℕ = replicate 16 0 in get_or block i 0 ≡ 0
no_words i = elim (cases_lt i 16) [
  | inl l ↦ get_or-replicate 16 i 0 0 l
  | inr l ↦ get_or_past (replicate 16 0) i 0 l
]

no_last_bits : (w : ℕ) → last_bits (replicate 16 0) w ≡ 0
unfolding last_bits
no_last_bits zero = refl
no_last_bits (suc w) =
    let rest = no_last_bits w in
    let bit = ap (λ (n : ℕ). bit_at n 63) (no_words w) in
    omega (arith, rest, bit)

pub none_odd : (c : ℕ) → is_odd_at (replicate 16 0) c ≡ false
unfolding is_odd_at
none_odd c =
    let rest = no_last_bits (c / 64 % 16) in
    let bit = ap (λ (n : ℕ). bit_at n (c % 64)) (no_words (c / 64 % 16)) ∙ bit_at-zero (c % 64) in
    let none : bit_at (get_or (replicate 16 0) (c / 64 % 16) 0) (c % 64) + last_bits (replicate 16 0) (c / 64 % 16) ≡ 0 =
    omega (arith, rest, bit) in
    ap (λ (n : ℕ). nat_eq (n % 2) 1) none

-- ---- the pass over the words
-- The words before k are flipped as the words before them say, and `flip` is what word k is to be flipped by.
pub record AreFlipped (block bits : List ℕ) (flip k : ℕ) : Type 0 where
  pub long : length bits ≡ 16
  pub next : flip ≡ last_bits block k % 2 * (2 ^ 64 - 1)
  pub words : (w : ℕ) → w < k → get_or bits w 0 ≡ bit_xor (get_or block w 0) (last_bits block w % 2 * (2 ^ 64 - 1))

pub none_flipped : (block bits : List ℕ) → length bits ≡ 16 → AreFlipped block bits 0 0
unfolding last_bits
none_flipped block bits n = record { long = n; next = refl; words = λ w h. absurd (omega (arith, h)) }

-- The bits of a word that is flipped as a whole, or not at all.
bit_of_flip : (p k : ℕ) → p < 2 → k < 64 → bit_at (p * (2 ^ 64 - 1)) k ≡ p
bit_of_flip p k h l = elim (cases_eq p 0) [
  | inl q ↦ ap (λ (n : ℕ). bit_at n k) (omega (arith, q)) ∙ (bit_at-zero k ∙ sym q)
  | inr q ↦ ap (λ (n : ℕ). bit_at n k) (omega (arith, q, h)) ∙ (bit_at_ones 64 k l ∙ omega (arith, q, h))
]

flipped_bit : (word p k : ℕ) → k < 64 → bit_at (bit_xor word (p % 2 * (2 ^ 64 - 1))) k ≡ (bit_at word k + p) % 2
flipped_bit word p k l =
    let flip = bit_of_flip (p % 2) k (omega arith) l in
    let bit = bit_at_xor word (p % 2 * (2 ^ 64 - 1)) k in
    omega (arith, flip, bit)

-- The flip of the next word.
next_flip : (n top next : ℕ) → top < 2 → next < 2 ^ 64 → (next + top) % 2 ^ 64 ≡ 0 → top ≡ n % 2 → next ≡ n % 2 * (2 ^ 64 - 1)
next_flip n top next h l sum is = omega arith

pub one_flipped : (block bits : List ℕ) (flip k word next : ℕ) → k < 16 → AreFlipped block bits flip k
    → word ≡ bit_xor (get_or block k 0) flip → word < 2 ^ 64 → next < 2 ^ 64 → (next + word / 2 ^ 63) % 2 ^ 64 ≡ 0
    → AreFlipped block (set bits k word) next (k + 1)
unfolding last_bits
one_flipped block bits flip k word next h before is fits small sum =
    let long = before.long in
    let flip_is = before.next in
    let count : last_bits block (k + 1) ≡ last_bits block k + bit_at (get_or block k 0) 63 =
    ap (λ (w : ℕ). last_bits block w) (add-one k) in
    let word_is : word ≡ bit_xor (get_or block k 0) (last_bits block k % 2 * (2 ^ 64 - 1)) =
    is ∙ ap (λ (n : ℕ). bit_xor (get_or block k 0) n) flip_is in
    let last : bit_at word 63 ≡ (bit_at (get_or block k 0) 63 + last_bits block k) % 2 =
    ap (λ (n : ℕ). bit_at n 63) word_is ∙ flipped_bit (get_or block k 0) (last_bits block k) 63 (omega arith) in
    record {
      long = length-set bits k word ∙ long;
      next = next_flip (last_bits block (k + 1)) (word / 2 ^ 63) next (omega (arith, fits)) small sum (omega (arith, count, last, fits));
      words = λ w l. elim (cases_eq w k) [
        | inl q ↦ get_or-set_at bits k w word 0 q (omega (arith, long, h))
            ∙ (word_is ∙ ap (λ (i : ℕ). bit_xor (get_or block i 0) (last_bits block i % 2 * (2 ^ 64 - 1))) (sym q))
        | inr q ↦ get_or-set_other bits k w word 0 q ∙ before.words w (omega (arith, q, l))
      ];
    }

pub all_flipped : (block bits : List ℕ) (flip k : ℕ) → 16 ≤ k → AreFlipped block bits flip k
    → (c : ℕ) → block_bit bits c ≡ is_odd_at block c
unfolding is_odd_at
all_flipped block bits flip k h all c =
    ap (λ (n : ℕ). nat_eq n 1) (ap (λ (w : ℕ). bit_at w (c % 64)) (all.words (c / 64 % 16) (omega (arith, h)))
    ∙ flipped_bit (get_or block (c / 64 % 16) 0) (last_bits block (c / 64 % 16)) (c % 64) (omega arith))

-- ---- a block whose bits are all the same
no_last : (marks : List ℕ) → last_bits marks 0 ≡ 0
unfolding last_bits
no_last marks = refl

module _ (marks : List ℕ) (p : ℕ) (small : p < 2) (only : IsOnly marks (p * (2 ^ 64 - 1))) where
  only_last : (w : ℕ) → 0 < w → w ≤ 16 → last_bits marks w ≡ p
  unfolding last_bits
  only_last zero l h = absurd (omega (arith, l))
  only_last (suc w) l h = elim (cases_eq w 0) [
    | inl q ↦ (let none : last_bits marks w ≡ 0 = ap (λ (i : ℕ). last_bits marks i) q ∙ no_last marks in
        let bit : bit_at (get_or marks w 0) 63 ≡ p = ap (λ (i : ℕ). bit_at (get_or marks i 0) 63) q
        ∙ (ap (λ (n : ℕ). bit_at n 63) only.first ∙ bit_of_flip p 63 small (omega arith)) in
        omega (arith, none, bit))
    | inr n ↦ (let rest : last_bits marks w ≡ p = only_last w (omega (arith, n)) (omega (arith, h)) in
        let bit : bit_at (get_or marks w 0) 63 ≡ 0 = ap (λ (n : ℕ). bit_at n 63) (only.none w (omega (arith, n)) (omega (arith, h)))
        ∙ bit_at-zero 63 in
        omega (arith, rest, bit))
  ]

  only_parity : (k j : ℕ) → k < 16 → j < 64 → (bit_at (get_or marks k 0) j + last_bits marks k) % 2 ≡ p
  only_parity k j h l = elim (cases_eq k 0) [
    | inl q ↦ (let none : last_bits marks k ≡ 0 = ap (λ (i : ℕ). last_bits marks i) q ∙ no_last marks in
        let bit : bit_at (get_or marks k 0) j ≡ p = ap (λ (i : ℕ). bit_at (get_or marks i 0) j) q
        ∙ (ap (λ (n : ℕ). bit_at n j) only.first ∙ bit_of_flip p j small l) in
        omega (arith, none, bit, small))
    | inr n ↦ (let rest : last_bits marks k ≡ p = only_last k (omega (arith, n)) (omega (arith, h)) in
        let bit : bit_at (get_or marks k 0) j ≡ 0 = ap (λ (n : ℕ). bit_at n j) (only.none k (omega (arith, n)) h) ∙ bit_at-zero j in
        omega (arith, rest, bit, small))
  ]

  pub only_odd : (c : ℕ) → is_odd_at marks c ≡ nat_eq p 1
  unfolding is_odd_at
  only_odd c = ap (λ (n : ℕ). nat_eq n 1) (only_parity (c / 64 % 16) (c % 64) (omega arith) (omega arith))

same_parity : (n p : ℕ) → n < 2 → p < 2 → nat_eq n 1 ≡ nat_eq p 1 → n ≡ p
same_parity n p l s e = elim (cases_eq n 1) [
  | inl q ↦ elim (cases_eq p 1) [
    | inl r ↦ omega (arith, q, r)
    | inr r ↦ absurd (let a : true ≡ false = sym (eq-eqb n 1 q) ∙ (e ∙ ne_eqb p 1 r) in cc)
  ]
  | inr q ↦ elim (cases_eq p 1) [
    | inl r ↦ absurd (let a : true ≡ false = sym (eq-eqb p 1 r) ∙ (sym e ∙ ne_eqb n 1 q) in cc)
    | inr r ↦ omega (arith, l, s, q, r)
  ]
]

module _ (marks : List ℕ) (p : ℕ) (small : p < 2) (all : (c : ℕ) → is_odd_at marks c ≡ nat_eq p 1) where
  parity_at : (c : ℕ) → (bit_at (get_or marks (c / 64 % 16) 0) (c % 64) + last_bits marks (c / 64 % 16)) % 2 ≡ p
  unfolding is_odd_at
  parity_at c = same_parity _ p (omega arith) small (all c)

  parity_in : (k j : ℕ) → k < 16 → j < 64 → (bit_at (get_or marks k 0) j + last_bits marks k) % 2 ≡ p
  parity_in k j h l =
      let word : (64 * k + j) / 64 % 16 ≡ k = omega (arith, h, l) in
      let bit : (64 * k + j) % 64 ≡ j = omega (arith, l) in
      sym (ap (λ (i : ℕ). (bit_at (get_or marks i 0) ((64 * k + j) % 64) + last_bits marks i) % 2) word
      ∙ ap (λ (i : ℕ). (bit_at (get_or marks k 0) i + last_bits marks k) % 2) bit) ∙ parity_at (64 * k + j)

  last_parity : (k : ℕ) → 0 < k → k < 16 → last_bits marks k % 2 ≡ p
  unfolding last_bits
  last_parity zero l h = absurd (omega (arith, l))
  last_parity (suc k) l h = let o = parity_in k 63 (omega (arith, h)) (omega arith) in omega (arith, o)

  pub only_if_odd : ((k : ℕ) → get_or marks k 0 < 2 ^ 64) → IsOnly marks (p * (2 ^ 64 - 1))
  only_if_odd fits = record {
    first = same_from_bits_below 64 (get_or marks 0 0) (p * (2 ^ 64 - 1)) (fits 0) (omega (arith, small)) (λ i l.
        let o = parity_in 0 i (omega arith) l in
        let b = bit_at-lt (get_or marks 0 0) i in
        let z = no_last marks in
        let flip = bit_of_flip p i small l in
        omega (arith, o, b, z, flip, small));
    none = λ k m h. same_from_bits_below 64 (get_or marks k 0) 0 (fits k) (omega arith) (λ i l.
        let o = parity_in k i h l in
        let b = bit_at-lt (get_or marks k 0) i in
        let last = last_parity k m h in
        let zero_bit = bit_at-zero i in
        omega (arith, o, b, last, zero_bit));
  }

-- A block that has other marks than an empty one and a full one has two different bits.
pub never_same : (marks : List ℕ) (value none all : Bool) → ((k : ℕ) → get_or marks k 0 < 2 ^ 64) → none ≡ false → all ≡ false
    → (IsOnly marks 0 → none ≡ true) → (IsOnly marks (2 ^ 64 - 1) → all ≡ true) → ((c : ℕ) → is_odd_at marks c ≡ value) → ⊥
never_same marks true none all fits n a f g u = let e = g (only_if_odd marks 1 (omega arith) u fits) in cc
never_same marks false none all fits n a f g u = let e = f (only_if_odd marks 0 (omega arith) u fits) in cc

-- Eight bytes in a word: the highest bit of each says whether it is ASCII.
use Rattle.std.proofs.Common.{◌≡◌, ◌∙◌, sym, ap, refl, ℕ, zero, suc, ◌+◌, ◌-◌, ◌*◌, ◌^◌, ◌<◌, ◌/◌, ◌%◌, List, get_or, min, bit_and, Fits, w8, arith, inl, inr}
use Rattle.std.specs.Int.{w64, bit_at, from_le_bytes, trailing_zeros}
use Rattle.std.proofs.lemmas.Bool.{cases_lt}
use Rattle.std.proofs.lemmas.Nat.{and_le_r}
use Rattle.std.proofs.lemmas.Nat.Bits.{bit_at_and, bit_at_cat_high, bit_at_cat_low, bit_at-pow_other, bit_at-trailing_zeros, bit_at-zero}

-- The number of n bytes from byte k on, the first one lowest.
abbrev digits : (ℕ → ℕ) → ℕ → ℕ → ℕ
digits f k zero = 0
digits f k (suc n) = digits f (suc k) n * 2 ^ 8 + f k

module _ (f : ℕ → ℕ) (bytes : (k : ℕ) → f k < 256) where
  bit_of_first : (k n r : ℕ) → r < 8 → bit_at (digits f k (suc n)) r ≡ bit_at (f k) r
  bit_of_first k n r l = bit_at_cat_low (digits f (suc k) n) 8 (f k) r l

  bit_of_next : (k n i r : ℕ) → bit_at (digits f k (suc n)) (8 * suc i + r) ≡ bit_at (digits f (suc k) n) (8 * i + r)
  bit_of_next k n i r =
      let b : f k < 2 ^ 8 = bytes k in
      let same : 8 * suc i + r - 8 ≡ 8 * i + r = omega arith in
      bit_at_cat_high (digits f (suc k) n) 8 (f k) (8 * suc i + r) b (omega arith) ∙ ap (λ j. bit_at (digits f (suc k) n) j) same

  -- Bit r of byte i is bit 8 * i + r of the number.
  bit_of : (n k i r : ℕ) → i < n → r < 8 → bit_at (digits f k n) (8 * i + r) ≡ bit_at (f (k + i)) r
  bit_of zero k i r l b = absurd (omega (arith, l))
  bit_of (suc n) k zero r l b =
      let same : k + 0 ≡ k = omega arith in
      let own : 8 * 0 + r ≡ r = omega arith in
      rw (same, own) (bit_of_first k n r b)
  bit_of (suc n) k (suc i) r l b =
      let same : suc k + i ≡ k + suc i = omega arith in
      bit_of_next k n i r ∙ bit_of n (suc k) i r (omega arith) b ∙ ap (λ j. bit_at (f j) r) same

  ascii_by_top : (n i : ℕ) → i < n → bit_at (digits f 0 n) (8 * i + 7) ≡ 0 → f i < 128
  ascii_by_top n i l z =
      let same : 0 + i ≡ i = omega arith in
      let top : bit_at (f i) 7 ≡ 0 = ap (λ j. bit_at (f j) 7) (sym same) ∙ sym (bit_of n 0 i 7 l (omega arith)) ∙ z in
      let b = bytes i in
      omega (arith, b, top)

-- The mask has the highest bit of each byte.
mask_top : (i : ℕ) → i < 8 → bit_at 0x8080_8080_8080_8080 (8 * i + 7) ≡ 1
mask_top i l = bit_of (λ _. 128) (λ _. omega arith) 8 0 i 7 l (omega arith)

min_zero : (a : ℕ) → min a 1 ≡ 0 → a ≡ 0
min_zero zero e = refl
min_zero (suc a) e = absurd (omega (arith, e))

min_some : (a b : ℕ) → min a b ≡ 1 → (0 < a) × (0 < b)
min_some zero b e = absurd (omega (arith, e))
min_some (suc a) zero e = absurd (omega (arith, e))
min_some (suc a) (suc b) e = (omega arith, omega arith)

-- Bit r of 128 is 1 only for r = 7.
top_only : (r : ℕ) → r < 8 → 0 < bit_at 128 r → r ≡ 7
top_only r l some = elim (cases_lt r 7) [
  | inl below ↦ absurd (omega (arith, some, bit_at-pow_other 7 r (λ e. omega (arith, e, below))))
  | inr from ↦ omega (arith, from, l)
]

module _ (xs : List ℕ) (fits : (k : ℕ) → Fits w8 (get_or xs k 0)) where
  bytes : (k : ℕ) → get_or xs k 0 < 256
  bytes k = let f = fits k in omega arith

  word_digits : from_le_bytes w64 xs ≡ digits (λ k. get_or xs k 0) 0 8
  word_digits = omega arith

  -- A byte whose highest bit is not in the masked word is ASCII.
  pub ascii_at : (i : ℕ) → i < 8 → bit_at (bit_and (from_le_bytes w64 xs) 0x8080_8080_8080_8080) (8 * i + 7) ≡ 0 → get_or xs i 0 < 128
  ascii_at i l z =
      let both = bit_at_and (from_le_bytes w64 xs) 0x8080_8080_8080_8080 (8 * i + 7) in
      let own : min (bit_at (from_le_bytes w64 xs) (8 * i + 7)) 1 ≡ 0 =
      ap (λ m. min (bit_at (from_le_bytes w64 xs) (8 * i + 7)) m) (sym (mask_top i l)) ∙ sym both ∙ z in
      ascii_by_top (λ k. get_or xs k 0) bytes 8 i l
      (ap (λ w. bit_at w (8 * i + 7)) (sym word_digits) ∙ min_zero _ own)

  -- If the masked word is 0, all eight bytes are ASCII.
  pub all_ascii : (high : ℕ) → high ≡ bit_and (from_le_bytes w64 xs) 0x8080_8080_8080_8080 → high ≡ 0
      → (i : ℕ) → i < 8 → get_or xs i 0 < 128
  all_ascii high e z i l = ascii_at i l (ap (λ w. bit_at w (8 * i + 7)) (sym e ∙ z) ∙ bit_at-zero (8 * i + 7))

  -- No bit of the masked word is 1 if all eight bytes are ASCII: it would be the highest of a byte.
  no_bit : ((i : ℕ) → i < 8 → get_or xs i 0 < 128) → (t : ℕ) → t < 64
      → bit_at (bit_and (from_le_bytes w64 xs) 0x8080_8080_8080_8080) t ≡ 1 → ⊥
  no_bit ascii t l e =
      let i : ℕ = t / 8 in
      let r : ℕ = t % 8 in
      let split : t ≡ 8 * i + r = omega arith in
      let some = min_some _ _ (sym (bit_at_and (from_le_bytes w64 xs) 0x8080_8080_8080_8080 t) ∙ e) in
      let mask : bit_at 0x8080_8080_8080_8080 t ≡ bit_at 128 r =
      ap (λ j. bit_at 0x8080_8080_8080_8080 j) split ∙ bit_of (λ _. 128) (λ _. omega arith) 8 0 i r (omega (arith, l)) (omega arith) in
      let top : r ≡ 7 = top_only r (omega arith) (rw mask at some.1) in
      let own : bit_at (from_le_bytes w64 xs) t ≡ bit_at (get_or xs i 0) r =
      ap (λ w. bit_at w t) word_digits ∙ ap (λ j. bit_at (digits (λ k. get_or xs k 0) 0 8) j) split
      ∙ bit_of (λ k. get_or xs k 0) bytes 8 0 i r (omega (arith, l)) (omega arith)
      ∙ ap (λ j. bit_at (get_or xs j 0) r) (omega arith) in
      let set : 0 < bit_at (get_or xs i 0) r = rw own at some.0 in
      let low = ascii i (omega (arith, l)) in
      let high : 0 < bit_at (get_or xs i 0) 7 = rw top at set in
      omega (arith, low, high)

  -- If all eight bytes are ASCII, the masked word is 0.
  pub no_high : ((i : ℕ) → i < 8 → get_or xs i 0 < 128) → bit_and (from_le_bytes w64 xs) 0x8080_8080_8080_8080 ≡ 0
  no_high ascii =
      let high : ℕ = bit_and (from_le_bytes w64 xs) 0x8080_8080_8080_8080 in
      elim (cases_lt 0 high) [
        | inr none ↦ omega (arith, none)
        | inl some ↦
            let lowest = bit_at-trailing_zeros w64 high some (omega (arith, and_le_r (from_le_bytes w64 xs) 0x8080_8080_8080_8080)) in
            absurd (no_bit ascii (trailing_zeros w64 high) lowest.0 lowest.1)
      ]

-- ASCII, eight bytes at a time: the highest bits of eight bytes, and runs of bytes that pass a test.
use Rattle.std.proofs.Common.{◌≡◌, ◌∙◌, sym, ap, subst, refl, ℕ, zero, suc, ◌+◌, ◌-◌, ◌*◌, ◌/◌, ◌%◌, ◌^◌, ◌<◌, ◌≤◌, List, [], ◌∷◌, take, drop, get_or, arith, inl, inr, suc-mul, w64}
use Rattle.std.specs.Int.{bit_at, bit_not, from_le_bytes}
use Rattle.std.specs.Prelude.{bit_and, ◌==◌, true}
use Rattle.std.proofs.lemmas.Bool.{cases_lt, eq-eqb}
use Rattle.std.proofs.lemmas.Nat.{pow_below, pow_pos, shr-shr}
use Rattle.std.proofs.lemmas.List.{get_or-drop, get_or-take}
use Rattle.std.proofs.lemmas.Nat.Bits.{and_pow, bit_at-lt, bit_at_and, bit_at_cat_low, bit_at_not}

-- The bit of a number that a mask leaves.
left_bit : (mask n i : ℕ) → bit_at mask i ≡ 1 → bit_at (bit_and mask n) i ≡ 0 → bit_at n i ≡ 0
left_bit mask n i one none = omega (arith, one, none, bit_at_and mask n i, bit_at-lt n i)

module _ (bytes : List ℕ) (n : ℕ) (fits : (i : ℕ) → get_or bytes i 0 < 256)
    (is : n ≡ from_le_bytes w64 (get_or bytes 0 0 ∷ get_or bytes 1 0 ∷ get_or bytes 2 0 ∷ get_or bytes 3 0
    ∷ get_or bytes 4 0 ∷ get_or bytes 5 0 ∷ get_or bytes 6 0 ∷ get_or bytes 7 0 ∷ [])) where
  sum : n ≡ get_or bytes 0 0 + get_or bytes 1 0 * 256 + get_or bytes 2 0 * 65536 + get_or bytes 3 0 * 16777216
      + get_or bytes 4 0 * 4294967296 + get_or bytes 5 0 * 1099511627776 + get_or bytes 6 0 * 281474976710656
      + get_or bytes 7 0 * 72057594037927936
  sum = is

  -- If the highest bit of byte k is 0, that byte is ASCII.
  pub high_of : (k : ℕ) → k < 8 → bit_at (bit_and 0x8080_8080_8080_8080 n) (8 * k + 7) ≡ 0 → get_or bytes k 0 < 128
  high_of zero l h =
      omega (arith, sum, fits 0, fits 1, fits 2, fits 3, fits 4, fits 5, fits 6, fits 7, left_bit 0x8080_8080_8080_8080 n 7 refl h)
  high_of (suc zero) l h =
      omega (arith, sum, fits 0, fits 1, fits 2, fits 3, fits 4, fits 5, fits 6, fits 7, left_bit 0x8080_8080_8080_8080 n 15 refl h)
  high_of (suc (suc zero)) l h =
      omega (arith, sum, fits 0, fits 1, fits 2, fits 3, fits 4, fits 5, fits 6, fits 7, left_bit 0x8080_8080_8080_8080 n 23 refl h)
  high_of (suc (suc (suc zero))) l h =
      omega (arith, sum, fits 0, fits 1, fits 2, fits 3, fits 4, fits 5, fits 6, fits 7, left_bit 0x8080_8080_8080_8080 n 31 refl h)
  high_of (suc (suc (suc (suc zero)))) l h =
      omega (arith, sum, fits 0, fits 1, fits 2, fits 3, fits 4, fits 5, fits 6, fits 7, left_bit 0x8080_8080_8080_8080 n 39 refl h)
  high_of (suc (suc (suc (suc (suc zero))))) l h =
      omega (arith, sum, fits 0, fits 1, fits 2, fits 3, fits 4, fits 5, fits 6, fits 7, left_bit 0x8080_8080_8080_8080 n 47 refl h)
  high_of (suc (suc (suc (suc (suc (suc zero)))))) l h =
      omega (arith, sum, fits 0, fits 1, fits 2, fits 3, fits 4, fits 5, fits 6, fits 7, left_bit 0x8080_8080_8080_8080 n 55 refl h)
  high_of (suc (suc (suc (suc (suc (suc (suc zero))))))) l h =
      omega (arith, sum, fits 0, fits 1, fits 2, fits 3, fits 4, fits 5, fits 6, fits 7, left_bit 0x8080_8080_8080_8080 n 63 refl h)
  high_of (suc (suc (suc (suc (suc (suc (suc (suc k)))))))) l h = absurd (omega (arith, l))

-- ---- bits as bytes
-- What the test of one bit of a byte says.
pub single_bit : (bits j : ℕ) → j < 8 → bit_and bits (1 * 2 ^ j % 256) ≡ 0 → bit_at bits j ≡ 0
single_bit bits j l none =
    let small : 2 ^ j < 256 = pow_below j 8 l in
    let whole : 1 * 2 ^ j % 256 ≡ 2 ^ j = omega (arith, small) in
    product-zero (bit_at bits j) (2 ^ j) (pow_pos j) (sym (and_pow bits j) ∙ (ap (λ (m : ℕ). bit_and bits m) (sym whole) ∙ none))
  where
    product-zero : (a b : ℕ) → 0 < b → a * b ≡ 0 → a ≡ 0
    product-zero zero b some e = refl
    product-zero (suc a) b some e = absurd (omega (arith, some, e, suc-mul a b))

-- A bit of a byte of a number.
byte_bit : (n s j : ℕ) → j < 8 → bit_at (n / 2 ^ s % 256) j ≡ bit_at n (s + j)
byte_bit n s j l =
    let m : ℕ = n / 2 ^ s in
    let split : m ≡ m / 256 * 256 + m % 256 = omega arith in
    let low : bit_at m j ≡ bit_at (m % 256) j =
    ap (λ (x : ℕ). bit_at x j) split ∙ bit_at_cat_low (m / 256) 8 (m % 256) j l in
    sym low ∙ ap (λ (x : ℕ). x % 2) (shr-shr n s j)

-- A bit that is 0 in a byte of the inverted word is 1 in the word.
pub inverted_bit : (word s j i : ℕ) → word < 2 ^ 64 → j < 8 → s + j ≡ i → i < 64
    → bit_at (bit_not w64 word / 2 ^ s % 256) j ≡ 0 → (bit_at word i == 1) ≡ true
inverted_bit word s j i fits l e m none =
    let off : bit_at (bit_not w64 word) i ≡ 0 =
    ap (λ (x : ℕ). bit_at (bit_not w64 word) x) (sym e) ∙ (sym (byte_bit (bit_not w64 word) s j l) ∙ none) in
    eq-eqb (bit_at word i) 1 (omega (arith, off, bit_at_not w64 word i fits m, bit_at-lt word i))

-- The test passes some more bytes, the first ones of a window.
pub longer_run : (P : ℕ → Type 0) (bytes : List ℕ) (start end n count : ℕ) → count ≤ n
    → ((i : ℕ) → start ≤ i → i < end → P (get_or bytes i 0))
    → ((k : ℕ) → k < count → P (get_or (take n (drop end bytes)) k 0))
    → (i : ℕ) → start ≤ i → i < end + count → P (get_or bytes i 0)
longer_run P bytes start end n count l before here i a b = elim (cases_lt i end) [
  | inl less ↦ before i a less
  | inr past ↦
      let e : end + (i - end) ≡ i = omega arith in
      let at : get_or (take n (drop end bytes)) (i - end) 0 ≡ get_or bytes (end + (i - end)) 0 =
      get_or-take n (drop end bytes) (i - end) 0 (omega arith) ∙ get_or-drop end bytes (i - end) 0 in
      subst (λ (j : ℕ). P (get_or bytes j 0)) e (subst P at (here (i - end) (omega arith)))
]

-- The bytes of a character by its size, for callers that test bytes themselves.
use Rattle.std.proofs.Common.{◌≡◌, ◌∙◌, ℕ, ◌+◌, ◌*◌, ◌/◌, ◌%◌, ◌<◌, ◌≤◌, List, ◌++◌, length, get_or, drop, ap, sym, subst, arith, inl, inr, Some, encode_utf8}
use Rattle.std.specs.Prelude.{◌⊎◌}
use Rattle.std.proofs.lemmas.Str.{length-encode}
use Rattle.icu_utf.specs.Utf8.{IsFirstPart}
use Rattle.icu_utf.proofs.Utf8Parts.{four_found, three_found}
use Rattle.icu_utf.proofs.Utf8Table.{of_four, of_one, of_three, of_two, row}

-- ---- from the bytes to the character
module _ (bytes : List ℕ) (high : ℕ) where
  pub three_bytes_found : 3 ≤ length bytes → get_or bytes 0 0 ≡ 0xE0 + high / 64 → get_or bytes 1 0 ≡ 0x80 + high % 64
      → get_or bytes 2 0 / 64 ≡ 2 → 0x20 ≤ high → high < 1024 → (high < 0x360) ⊎ (0x380 ≤ high)
      → IsFirstPart bytes (Some (64 * high + get_or bytes 2 0 % 64)) 3
  three_bytes_found there lead second third low most other =
      let d : ℕ = get_or bytes 2 0 % 64 in
      let same : high / 64 * 64 + high % 64 ≡ high = omega arith in
      let p = three_found bytes (high / 64) (high % 64) d lead (omega (arith, most))
      (record { there = omega (arith, there); byte = second; six = omega arith })
      (omega (arith, low), elim other [ inl l ↦ inl (omega (arith, l)) | inr h ↦ inr (omega (arith, h)) ])
      (record { there = omega (arith, there); byte = omega (arith, third); six = omega arith }) in
      let is : (high / 64 * 64 + high % 64) * 64 + d ≡ 64 * high + d = omega arith in
      subst (λ (c : ℕ). IsFirstPart bytes (Some c) 3) is p

  pub four_bytes_found : 4 ≤ length bytes → get_or bytes 0 0 ≡ 0xF0 + high / 64 → get_or bytes 1 0 ≡ 0x80 + high % 64
      → get_or bytes 2 0 / 64 ≡ 2 → get_or bytes 3 0 / 64 ≡ 2 → 0x10 ≤ high → high < 0x110
      → IsFirstPart bytes (Some (4096 * high + (64 * (get_or bytes 2 0 % 64) + get_or bytes 3 0 % 64))) 4
  four_bytes_found there lead second third fourth low most =
      let d : ℕ = get_or bytes 2 0 % 64 in
      let e : ℕ = get_or bytes 3 0 % 64 in
      let p = four_found bytes (high / 64) (high % 64) d e lead
      (record { there = omega (arith, there); byte = second; six = omega arith })
      (omega (arith, low), omega (arith, most))
      (record { there = omega (arith, there); byte = omega (arith, third); six = omega arith })
      (record { there = omega (arith, there); byte = omega (arith, fourth); six = omega arith }) in
      let is : (high / 64 * 64 + high % 64) * 4096 + d * 64 + e ≡ 4096 * high + (64 * d + e) = omega arith in
      subst (λ (c : ℕ). IsFirstPart bytes (Some c) 4) is p

-- ---- from the character to the bytes
module _ (bytes : List ℕ) (c size : ℕ) (p : IsFirstPart bytes (Some c) size) where
  seen : (own : List ℕ) → encode_utf8 c ≡ own → (k : ℕ) → get_or bytes k 0 ≡ get_or (own ++ drop size bytes) k 0
  seen own e k = ap (λ (bs : List ℕ). get_or bs k 0) (p.2 ∙ ap (λ (bs : List ℕ). bs ++ drop size bytes) e)

  long : (own : List ℕ) → encode_utf8 c ≡ own → size ≡ length own
  long own e = p.1 ∙ (sym (length-encode c) ∙ ap (λ (bs : List ℕ). length bs) e)

pub byte_of_one : (bytes : List ℕ) (c : ℕ) → IsFirstPart bytes (Some c) 1 → get_or bytes 0 0 < 0x80
byte_of_one bytes c p = elim (row c p.0) [
  | of_one h e ↦ omega (arith, h, seen bytes c 1 p _ e 0)
  | of_two a b l h t e ↦ absurd (omega (arith, long bytes c 1 p _ e))
  | of_three a b d la lb ld h e ↦ absurd (omega (arith, long bytes c 1 p _ e))
  | of_four a b d f lb ld lf h e ↦ absurd (omega (arith, long bytes c 1 p _ e))
]

pub bytes_of_two : (bytes : List ℕ) (c : ℕ) → IsFirstPart bytes (Some c) 2
    → (0xC2 ≤ get_or bytes 0 0) × (get_or bytes 0 0 < 0xE0) × (get_or bytes 1 0 / 64 ≡ 2)
bytes_of_two bytes c p = elim (row c p.0) [
  | of_one h e ↦ absurd (omega (arith, long bytes c 2 p _ e))
  | of_two a b l h t e ↦
      let first = seen bytes c 2 p _ e 0 in
      let second = seen bytes c 2 p _ e 1 in
      (omega (arith, first, l), omega (arith, first, h), omega (arith, second, t))
  | of_three a b d la lb ld h e ↦ absurd (omega (arith, long bytes c 2 p _ e))
  | of_four a b d f lb ld lf h e ↦ absurd (omega (arith, long bytes c 2 p _ e))
]

-- The first two bytes of three or four contain the upper bits.
pub record HasHigh (bytes : List ℕ) (lead high : ℕ) : Type 0 where
  pub first : get_or bytes 0 0 ≡ lead + high / 64
  pub second : get_or bytes 1 0 ≡ 0x80 + high % 64
  pub third : get_or bytes 2 0 / 64 ≡ 2

pub bytes_of_three : (bytes : List ℕ) (c : ℕ) → IsFirstPart bytes (Some c) 3
    → (high : ℕ) × HasHigh bytes 0xE0 high × (0x20 ≤ high) × (high < 1024) × ((high < 0x360) ⊎ (0x380 ≤ high))
bytes_of_three bytes c p = elim (row c p.0) [
  | of_one h e ↦ absurd (omega (arith, long bytes c 3 p _ e))
  | of_two a b l h t e ↦ absurd (omega (arith, long bytes c 3 p _ e))
  | of_three a b d la lb ld h e ↦
      let first = seen bytes c 3 p _ e 0 in
      let second = seen bytes c 3 p _ e 1 in
      let third = seen bytes c 3 p _ e 2 in (
        a * 64 + b,
        record { first = omega (arith, first, lb); second = omega (arith, second, lb); third = omega (arith, third, ld) },
        h.0,
        omega (arith, la, lb),
        h.1,
      )
  | of_four a b d f lb ld lf h e ↦ absurd (omega (arith, long bytes c 3 p _ e))
]

pub bytes_of_four : (bytes : List ℕ) (c : ℕ) → IsFirstPart bytes (Some c) 4
    → (high : ℕ) × HasHigh bytes 0xF0 high × (get_or bytes 3 0 / 64 ≡ 2) × (0x10 ≤ high) × (high < 0x110)
bytes_of_four bytes c p = elim (row c p.0) [
  | of_one h e ↦ absurd (omega (arith, long bytes c 4 p _ e))
  | of_two a b l h t e ↦ absurd (omega (arith, long bytes c 4 p _ e))
  | of_three a b d la lb ld h e ↦ absurd (omega (arith, long bytes c 4 p _ e))
  | of_four a b d f lb ld lf h e ↦
      let first = seen bytes c 4 p _ e 0 in
      let second = seen bytes c 4 p _ e 1 in
      let third = seen bytes c 4 p _ e 2 in
      let fourth = seen bytes c 4 p _ e 3 in (
        a * 64 + b,
        record { first = omega (arith, first, lb); second = omega (arith, second, lb); third = omega (arith, third, ld) },
        omega (arith, fourth, lf),
        h.0,
        h.1,
      )
]

-- Characters of one to four bytes at the start of bytes, and the loops that pass them.
use Rattle.std.proofs.Common.{◌≡◌, ◌∙◌, sym, ap, subst, ℕ, ◌+◌, ◌-◌, ◌*◌, ◌/◌, ◌%◌, ◌<◌, ◌≤◌, Bool, true, false, List, length, drop, get_or, arith, inl, inr, Some}
use Rattle.std.specs.Prelude.{◌⊎◌}
use mathlib.Core.Bool.{beq, not}
use Rattle.std.proofs.lemmas.Bool.{cases_lt}
use Rattle.std.proofs.lemmas.Str.{encode_same}
use Rattle.icu_utf.specs.Utf8.{IsFirstPart}
use Rattle.icu_utf.proofs.CallerLemmas.{four_bytes_found, three_bytes_found, two_bytes_found}
use Rattle.icu_frozen_sets.specs.FrozenWords.{is_held}
use Rattle.icu_frozen_sets.specs.Inside.ThreeByte.{IsPassed}
use Rattle.icu_frozen_sets.specs.declared.three_byte.Passed.{Passed}
use Rattle.icu_frozen_sets.proofs.ThreeByteLemmas.{Walks, other_of, passed_end, same_of, walks_more}

-- ---- the first character
-- There is one at most.
pub same_part : (bytes : List ℕ) (c d size : ℕ) → IsFirstPart bytes (Some c) size → IsFirstPart bytes (Some d) size → Some c ≡ Some d
same_part bytes c d size p q = ap (λ (x : ℕ). Some x) ((encode_same c d _ _ (sym p.2 ∙ q.2)).0)

pub two_part : (bytes : List ℕ) → 2 ≤ length bytes → 0xC2 ≤ get_or bytes 0 0 → get_or bytes 0 0 < 0xE0 → get_or bytes 1 0 / 64 ≡ 2
    → IsFirstPart bytes (Some (64 * (get_or bytes 0 0 % 32) + get_or bytes 1 0 % 64)) 2
two_part bytes many least most trail =
    let x : ℕ = get_or bytes 0 0 in
    let y : ℕ = get_or bytes 1 0 in
    let a : ℕ = x % 32 in
    let b : ℕ = y % 64 in
    let first : x ≡ 192 + a = omega (arith, least, most) in
    let second : y ≡ 128 + b = omega (arith, trail) in
    let f = two_bytes_found bytes a b first (omega (arith, first, least)) (omega arith) (omega (arith, many)) second (omega arith) in
    let same : a * 64 + b ≡ 64 * a + b = omega arith in
    subst (λ (c : ℕ). IsFirstPart bytes (Some c) 2) same f

pub three_part : (bytes : List ℕ) (both : ℕ) → 3 ≤ length bytes → get_or bytes 1 0 / 64 ≡ 2 → get_or bytes 2 0 / 64 ≡ 2
    → both ≡ 64 * get_or bytes 0 0 + get_or bytes 1 0 → 0x38A0 ≤ both → both < 0x3C80 → (both / 32 ≡ 0x1DF → ⊥)
    → IsFirstPart bytes (Some (64 * (both - 0x3880) + get_or bytes 2 0 % 64)) 3
three_part bytes both many second third e least most other =
    let high : ℕ = both - 0x3880 in
    let allowed : (high < 0x360) ⊎ (0x380 ≤ high) = elim (cases_lt high 0x360) [
      | inl l ↦ inl l
      | inr l ↦ elim (cases_lt high 0x380) [ inl m ↦ absurd (other (omega (arith, least, l, m))) | inr m ↦ inr m ]
    ] in
    three_bytes_found bytes high many (omega (arith, second, e, least)) (omega (arith, second, e, least)) third
    (omega (arith, least)) (omega (arith, least, most)) allowed

pub four_part : (bytes : List ℕ) (both : ℕ) → 4 ≤ length bytes → get_or bytes 1 0 / 64 ≡ 2 → get_or bytes 2 0 / 64 ≡ 2
    → get_or bytes 3 0 / 64 ≡ 2 → both ≡ 64 * get_or bytes 0 0 + get_or bytes 1 0 → 0x3C90 ≤ both → both < 0x3D90
    → IsFirstPart bytes (Some (4096 * (both - 0x3C80) + (64 * (get_or bytes 2 0 % 64) + get_or bytes 3 0 % 64))) 4
four_part bytes both many second third fourth e least most =
    four_bytes_found bytes (both - 0x3C80) many (omega (arith, second, e, least)) (omega (arith, second, e, least)) third fourth
    (omega (arith, least)) (omega (arith, least, most))

-- ---- what the loops have passed
module _ (table : List ℕ) (held : Bool) (bytes : List ℕ) (start : ℕ) (rest : List ℕ)
    (w : Walks (Unit {0}) (is_held table) held bytes start rest) (c size : ℕ) (p : IsFirstPart rest (Some c) size)
    (b : Bool) (e : b ≡ is_held table c) where
  pub near_more : not (beq b held) ≡ false → Walks (Unit {0}) (is_held table) held bytes start (drop size rest)
  near_more n = walks_more (Unit {0}) (is_held table) held bytes start rest w c size p (λ u. same_of _ _ _ e n)

  pub near_end : not (beq b held) ≡ true → (passed : Passed) → passed.end ≡ length bytes - length rest
      → IsPassed (Unit {0}) (is_held table) held bytes start passed
  near_end n passed at = passed_end (Unit {0}) (is_held table) held bytes start rest w c size p passed at
      (λ u. other_of _ _ _ e n)

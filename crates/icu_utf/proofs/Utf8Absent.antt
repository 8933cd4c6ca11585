-- Bytes that do not start with a character, byte by byte.
use Rattle.std.proofs.Common.{◌≡◌, ◌∙◌, ℕ, ◌+◌, ◌-◌, ◌*◌, ◌<◌, ◌≤◌, List, length, get_or, drop, ap, arith, inl, inr, Some, encode_utf8}
use Rattle.std.specs.Prelude.{◌⊎◌}
use Rattle.std.specs.Str.{StartsWithNoChar}
use Rattle.std.proofs.lemmas.Bool.{cases_lt}
use Rattle.std.proofs.lemmas.List.{length-append}
use Rattle.icu_utf.specs.Trails.{IsHighOfFour, IsHighOfThree, IsNoTrail, IsTrail}
use Rattle.icu_utf.specs.Utf8.{IsFirstPart, IsIllFormedPart}
use Rattle.icu_utf.proofs.Utf8Table.{longer_than_three, longer_than_two}
use Rattle.icu_utf.proofs.Utf8Parts.{bad_second_of_four, bad_second_of_three, four_found, not_first, not_fourth, not_second_of_two, not_third_of_four, not_third_of_three, part_of_ascii, three_found, two_found}

-- A character at the start of the bytes.
begins : (bytes : List ℕ) (c size : ℕ) → IsFirstPart bytes (Some c) size → StartsWithNoChar bytes → ⊥
begins bytes c size p none = none c (drop size bytes) p.0 p.2

-- A byte is a trail byte or not.
trail_cases : (bytes : List ℕ) (place : ℕ) → ((bits : ℕ) → IsTrail bytes place bits → ⊥) → IsNoTrail bytes place
trail_cases bytes place bad there = elim (cases_lt (get_or bytes place 0) 128) [
  | inl low ↦ inl low
  | inr from ↦ elim (cases_lt (get_or bytes place 0) 192) [
    | inl to ↦ absurd (bad (get_or bytes place 0 - 128) (record { there = there; byte = omega arith; six = omega arith }))
    | inr high ↦ inr high
  ]
]

-- The first byte is the lead byte of more bytes than there are.
pub too_few_for_three : (bytes : List ℕ) → 224 ≤ get_or bytes 0 0 → length bytes < 3 → StartsWithNoChar bytes
too_few_for_three bytes lead few c rest s e =
    let lengths = ap (λ (bs : List ℕ). length bs) e ∙ length-append (encode_utf8 c) rest in
    omega (arith, few, lengths, longer_than_two c rest bytes s e lead)

pub too_few_for_four : (bytes : List ℕ) → 240 ≤ get_or bytes 0 0 → length bytes < 4 → StartsWithNoChar bytes
too_few_for_four bytes lead few c rest s e =
    let lengths = ap (λ (bs : List ℕ). length bs) e ∙ length-append (encode_utf8 c) rest in
    omega (arith, few, lengths, longer_than_three c rest bytes s e lead)

-- Whether ten bits are the upper ones of a three-byte character, and nine bits those of a four-byte
-- one.
three_cases : (h : ℕ) → IsHighOfThree h ⊎ (IsHighOfThree h → ⊥)
three_cases h = elim (cases_lt h 32) [
  | inl low ↦ inr (λ g. omega (arith, low, g.0))
  | inr from ↦ elim (cases_lt h 864) [
    | inl below ↦ inl (from, inl below)
    | inr surrogate ↦ elim (cases_lt h 896) [
      | inl to ↦ inr (λ g. elim g.1 [ inl below ↦ omega (arith, surrogate, below) | inr above ↦ omega (arith, to, above) ])
      | inr above ↦ inl (from, inr above)
    ]
  ]
]

four_cases : (h : ℕ) → IsHighOfFour h ⊎ (IsHighOfFour h → ⊥)
four_cases h = elim (cases_lt h 16) [
  | inl low ↦ inr (λ g. omega (arith, low, g.0))
  | inr from ↦ elim (cases_lt h 272) [
    | inl to ↦ inl (from, to)
    | inr above ↦ inr (λ g. omega (arith, above, g.1))
  ]
]

-- ---- two bytes
module _ (bytes : List ℕ) (a : ℕ) (lead : get_or bytes 0 0 ≡ 192 + a) (from : 2 ≤ a) (to : a < 32) where
  pub no_two : StartsWithNoChar bytes → 0 < length bytes → IsIllFormedPart bytes 1
  no_two none some = not_second_of_two bytes (omega arith) (omega arith)
      (trail_cases bytes 1 (λ b t. begins bytes (a * 64 + b) 2 (two_found bytes a b lead from to t) none)) some

-- ---- three bytes
module _ (bytes : List ℕ) (a b : ℕ) (lead : get_or bytes 0 0 ≡ 224 + a) (to : a < 16) (s : IsTrail bytes 1 b) where
  pub no_third : IsNoTrail bytes 2 → StartsWithNoChar bytes
  no_third bad = elim (three_cases (a * 64 + b)) [
    | inl high ↦ (not_third_of_three bytes a b lead to s high bad).no_character
    | inr low ↦ (bad_second_of_three bytes a b lead to s low).no_character
  ]

  pub no_three : StartsWithNoChar bytes → IsHighOfThree (a * 64 + b) → IsIllFormedPart bytes 2
  no_three none high = not_third_of_three bytes a b lead to s high
      (trail_cases bytes 2 (λ d t. begins bytes ((a * 64 + b) * 64 + d) 3 (three_found bytes a b d lead to s high t) none))

-- ---- four bytes
module _ (bytes : List ℕ) (a b : ℕ) (lead : get_or bytes 0 0 ≡ 240 + a) (s : IsTrail bytes 1 b) where
  pub no_third_of_four : IsNoTrail bytes 2 → StartsWithNoChar bytes
  no_third_of_four bad = elim (four_cases (a * 64 + b)) [
    | inl high ↦ (not_third_of_four bytes a b lead s high bad).no_character
    | inr low ↦ (bad_second_of_four bytes a b lead s low).no_character
  ]

  pub no_fourth : (d : ℕ) → IsTrail bytes 2 d → IsNoTrail bytes 3 → StartsWithNoChar bytes
  no_fourth d t bad = elim (four_cases (a * 64 + b)) [
    | inl high ↦ (not_fourth bytes a b d lead s high t bad).no_character
    | inr low ↦ (bad_second_of_four bytes a b lead s low).no_character
  ]

  pub no_four : (d : ℕ) → StartsWithNoChar bytes → IsHighOfFour (a * 64 + b) → IsTrail bytes 2 d → IsIllFormedPart bytes 3
  no_four d none high t = not_fourth bytes a b d lead s high t
      (trail_cases bytes 3 (λ f u. begins bytes ((a * 64 + b) * 4096 + d * 64 + f) 4 (four_found bytes a b d f lead s high t u) none))

-- ---- one byte
pub no_one : (bytes : List ℕ) → StartsWithNoChar bytes → 0 < length bytes → get_or bytes 0 0 < 224 → IsIllFormedPart bytes 1
no_one bytes none some to = elim (cases_lt (get_or bytes 0 0) 128) [
  | inl ascii ↦ absurd (begins bytes (get_or bytes 0 0) 1 (part_of_ascii bytes some ascii) none)
  | inr from ↦ elim (cases_lt (get_or bytes 0 0) 194) [
    | inl low ↦ not_first bytes some from (inl low)
    | inr lead ↦ no_two bytes (get_or bytes 0 0 - 192) (omega arith) (omega arith) (omega arith) none some
  ]
]

-- The bytes of characters, row by row (table 3-7 of the Unicode Standard), and which bytes are a
-- prefix of them.
use Rattle.std.proofs.Common.{◌≡◌, ◌∙◌, ℕ, ◌+◌, ◌*◌, ◌/◌, ◌%◌, ◌<◌, ◌≤◌, List, [], ◌∷◌, ◌++◌, length, get_or, refl, ap, sym, arith, inl, inr}
use Rattle.std.specs.Prelude.{◌⊎◌}
use Rattle.std.specs.Char.{IsScalar, encode_utf8}
use Rattle.std.proofs.Math.Utf8.{scalar_cases}
use Rattle.std.proofs.lemmas.Bool.{cases_lt, lt-ltb, le-ltb, le-leb}
use Rattle.std.proofs.lemmas.List.{get_or_append_left, length-append}
use Rattle.std.proofs.lemmas.Str.{encode_ascii}
use Rattle.icu_utf.specs.Trails.{IsHighOfFour, IsHighOfThree}
use Rattle.icu_utf.specs.Utf8.{BeginsCharacter}

-- ---- the bytes of a character
encode_two : (c : ℕ) → 128 ≤ c → c < 2048 → encode_utf8 c ≡ (192 + c / 64) ∷ (128 + c % 64) ∷ []
unfolding encode_utf8
encode_two c l h = rw (le-ltb c 128 l, lt-ltb c 2048 h) refl

encode_three : (c : ℕ) → 2048 ≤ c → c < 65536 → encode_utf8 c ≡ (224 + c / 4096) ∷ (128 + c / 64 % 64) ∷ (128 + c % 64) ∷ []
unfolding encode_utf8
encode_three c l h = rw (le-ltb c 128 (omega arith), le-ltb c 2048 l, lt-ltb c 65536 h) refl

encode_four : (c : ℕ) → 65536 ≤ c → encode_utf8 c ≡ (240 + c / 262144) ∷ (128 + c / 4096 % 64) ∷ (128 + c / 64 % 64) ∷ (128 + c % 64) ∷ []
unfolding encode_utf8
encode_four c l = rw (le-ltb c 128 (omega arith), le-ltb c 2048 (omega arith), le-ltb c 65536 l) refl

pub scalar_low : (c : ℕ) → c < 0xD800 → IsScalar c
scalar_low c h = rw (lt-ltb c 0xD800 h) refl

pub scalar_high : (c : ℕ) → 0xE000 ≤ c → c < 0x110000 → IsScalar c
scalar_high c l h = rw (le-ltb c 0xD800 (omega arith), le-leb 0xE000 c l, lt-ltb c 0x110000 h) refl

-- A character with these bytes.
pub record HasBytes (c : ℕ) (bytes : List ℕ) : Type 0 where
  pub scalar : IsScalar c
  pub encoded : encode_utf8 c ≡ bytes

pub one : (c : ℕ) → c < 128 → HasBytes c (c ∷ [])
one c h = record { scalar = scalar_low c (omega arith); encoded = encode_ascii c h }

pub two : (a b : ℕ) → 2 ≤ a → a < 32 → b < 64 → HasBytes (a * 64 + b) ((192 + a) ∷ (128 + b) ∷ [])
two a b l h s =
    let c = a * 64 + b in
    let first : c / 64 ≡ a = omega arith in
    let second : c % 64 ≡ b = omega arith in
    record { scalar = scalar_low c (omega arith); encoded = encode_two c (omega arith) (omega arith) ∙ rw (first, second) refl }

three_scalar : (h d : ℕ) → h < 1024 → IsHighOfThree h → d < 64 → IsScalar (h * 64 + d)
three_scalar h d top high s = elim high.1 [
  | inl low ↦ scalar_low (h * 64 + d) (omega arith)
  | inr far ↦ scalar_high (h * 64 + d) (omega arith) (omega arith)
]

pub three : (a b d : ℕ) → a < 16 → b < 64 → d < 64 → IsHighOfThree (a * 64 + b)
    → HasBytes ((a * 64 + b) * 64 + d) ((224 + a) ∷ (128 + b) ∷ (128 + d) ∷ [])
three a b d la lb ld high =
    let c = (a * 64 + b) * 64 + d in
    let low = high.0 in
    let first : c / 4096 ≡ a = omega arith in
    let second : c / 64 % 64 ≡ b = omega arith in
    let third : c % 64 ≡ d = omega arith in
    record {
      scalar = three_scalar (a * 64 + b) d (omega arith) high ld;
      encoded = encode_three c (omega arith) (omega arith) ∙ rw (first, second, third) refl;
    }

pub four : (a b d e : ℕ) → b < 64 → d < 64 → e < 64 → IsHighOfFour (a * 64 + b)
    → HasBytes ((a * 64 + b) * 4096 + d * 64 + e) ((240 + a) ∷ (128 + b) ∷ (128 + d) ∷ (128 + e) ∷ [])
four a b d e lb ld le high =
    let c = (a * 64 + b) * 4096 + d * 64 + e in
    let low = high.0 in
    let top = high.1 in
    let first : c / 262144 ≡ a = omega arith in
    let second : c / 4096 % 64 ≡ b = omega arith in
    let third : c / 64 % 64 ≡ d = omega arith in
    let fourth : c % 64 ≡ e = omega arith in
    record {
      scalar = scalar_high c (omega arith) (omega arith);
      encoded = encode_four c (omega arith) ∙ rw (first, second, third, fourth) refl;
    }

-- ---- each character has such bytes
pub data Row (c : ℕ) : Type 0 where
  of_one : c < 128 → encode_utf8 c ≡ c ∷ [] → Row c
  of_two : (a b : ℕ) → 2 ≤ a → a < 32 → b < 64 → encode_utf8 c ≡ (192 + a) ∷ (128 + b) ∷ [] → Row c
  of_three : (a b d : ℕ) → a < 16 → b < 64 → d < 64 → IsHighOfThree (a * 64 + b)
      → encode_utf8 c ≡ (224 + a) ∷ (128 + b) ∷ (128 + d) ∷ [] → Row c
  of_four : (a b d e : ℕ) → b < 64 → d < 64 → e < 64 → IsHighOfFour (a * 64 + b)
      → encode_utf8 c ≡ (240 + a) ∷ (128 + b) ∷ (128 + d) ∷ (128 + e) ∷ [] → Row c

high_of_three : (c : ℕ) → (c < 0xD800) ⊎ ((0xE000 ≤ c) × (c < 0x110000)) → 2048 ≤ c → c < 65536
    → IsHighOfThree (c / 4096 * 64 + c / 64 % 64)
high_of_three c s l h = elim s [
  | inl low ↦ (omega arith, inl (omega arith))
  | inr far ↦ (omega arith, inr (omega (arith, far.0)))
]

high_of_four : (c : ℕ) → (c < 0xD800) ⊎ ((0xE000 ≤ c) × (c < 0x110000)) → 65536 ≤ c → IsHighOfFour (c / 262144 * 64 + c / 4096 % 64)
high_of_four c s l = elim s [
  | inl low ↦ absurd (omega arith)
  | inr far ↦ (omega arith, omega (arith, far.1))
]

pub row : (c : ℕ) → IsScalar c → Row c
row c s = elim (cases_lt c 128) [
  | inl h ↦ of_one h (encode_ascii c h)
  | inr l ↦ elim (cases_lt c 2048) [
    | inl h ↦ of_two (c / 64) (c % 64) (omega arith) (omega arith) (omega arith) (encode_two c l h)
    | inr m ↦ elim (cases_lt c 65536) [
      | inl h ↦ of_three (c / 4096) (c / 64 % 64) (c % 64) (omega arith) (omega arith) (omega arith)
          (high_of_three c (scalar_cases c s) m h)
          (encode_three c m h)
      | inr k ↦ of_four (c / 262144) (c / 4096 % 64) (c / 64 % 64) (c % 64) (omega arith) (omega arith) (omega arith)
          (high_of_four c (scalar_cases c s) k) (encode_four c k)
    ]
  ]
]

-- ---- the first byte of a character determines how many follow
module _ (c : ℕ) (rest bytes : List ℕ) (s : IsScalar c) (parts : bytes ≡ encode_utf8 c ++ rest) where
  lead : (own : List ℕ) → encode_utf8 c ≡ own → get_or bytes 0 0 ≡ get_or (own ++ rest) 0 0
  lead own e = ap (λ (bs : List ℕ). get_or bs 0 0) (parts ∙ ap (λ (bs : List ℕ). bs ++ rest) e)

  long : (own : List ℕ) → encode_utf8 c ≡ own → length (encode_utf8 c) ≡ length own
  long own e = ap (λ (bs : List ℕ). length bs) e

  pub longer_than_one : 128 ≤ get_or bytes 0 0 → 1 < length (encode_utf8 c)
  longer_than_one m = elim (row c s) [
    | of_one h e ↦ absurd (omega (arith, lead _ e))
    | of_two a b l h t e ↦ omega (arith, long _ e)
    | of_three a b d la lb ld h e ↦ omega (arith, long _ e)
    | of_four a b d f lb ld lf h e ↦ omega (arith, long _ e)
  ]

  pub longer_than_two : 224 ≤ get_or bytes 0 0 → 2 < length (encode_utf8 c)
  longer_than_two m = elim (row c s) [
    | of_one h e ↦ absurd (omega (arith, lead _ e))
    | of_two a b l h t e ↦ absurd (omega (arith, lead _ e))
    | of_three a b d la lb ld h e ↦ omega (arith, long _ e)
    | of_four a b d f lb ld lf h e ↦ omega (arith, long _ e)
  ]

  pub longer_than_three : 240 ≤ get_or bytes 0 0 → 3 < length (encode_utf8 c)
  longer_than_three m = elim (row c s) [
    | of_one h e ↦ absurd (omega (arith, lead _ e))
    | of_two a b l h t e ↦ absurd (omega (arith, lead _ e))
    | of_three a b d la lb ld h e ↦ absurd (omega (arith, lead _ e))
    | of_four a b d f lb ld lf h e ↦ omega (arith, long _ e)
  ]

-- ---- the bytes that are a prefix of a character's
--
-- The second byte that may follow the first one.
pub data IsSecond (x y : ℕ) : Type 0 where
  second_of_two : 194 ≤ x → x < 224 → 128 ≤ y → y < 192 → IsSecond x y
  second_of_three : (a b : ℕ) → a < 16 → b < 64 → x ≡ 224 + a → y ≡ 128 + b → IsHighOfThree (a * 64 + b) → IsSecond x y
  second_of_four : (a b : ℕ) → b < 64 → x ≡ 240 + a → y ≡ 128 + b → IsHighOfFour (a * 64 + b) → IsSecond x y

module _ (part : List ℕ) (b : BeginsCharacter part) where
  abbrev c : ℕ
  c = b.0

  seen : (own : List ℕ) → encode_utf8 c ≡ own → (k : ℕ) → k < length part → get_or part k 0 ≡ get_or own k 0
  seen own e k h = sym (get_or_append_left part b.2.0 0 k h) ∙ ap (λ (bs : List ℕ). get_or bs k 0) (b.2.1 ∙ e)

  within : (own : List ℕ) → encode_utf8 c ≡ own → length part ≤ length own
  within own e = omega (arith, ap (λ (bs : List ℕ). length bs) (b.2.1 ∙ e), length-append part b.2.0)

  pub begins_two : 1 < length part → IsSecond (get_or part 0 0) (get_or part 1 0)
  begins_two n = elim (row c b.1) [
    | of_one h e ↦ absurd (omega (arith, within _ e))
    | of_two x y l h t e ↦ second_of_two (omega (arith, seen _ e 0 (omega arith))) (omega (arith, seen _ e 0 (omega arith)))
        (omega (arith, seen _ e 1 n)) (omega (arith, seen _ e 1 n))
    | of_three x y d la lb ld h e ↦ second_of_three x y la lb (seen _ e 0 (omega arith)) (seen _ e 1 n) h
    | of_four x y d f lb ld lf h e ↦ second_of_four x y lb (seen _ e 0 (omega arith)) (seen _ e 1 n) h
  ]

  pub begins_three : 2 < length part → (128 ≤ get_or part 2 0) × (get_or part 2 0 < 192)
  begins_three n = elim (row c b.1) [
    | of_one h e ↦ absurd (omega (arith, within _ e))
    | of_two x y l h t e ↦ absurd (omega (arith, within _ e))
    | of_three x y d la lb ld h e ↦ (omega (arith, seen _ e 2 n), omega (arith, seen _ e 2 n))
    | of_four x y d f lb ld lf h e ↦ (omega (arith, seen _ e 2 n), omega (arith, seen _ e 2 n))
  ]

  pub begins_four : 3 < length part → (128 ≤ get_or part 3 0) × (get_or part 3 0 < 192)
  begins_four n = elim (row c b.1) [
    | of_one h e ↦ absurd (omega (arith, within _ e))
    | of_two x y l h t e ↦ absurd (omega (arith, within _ e))
    | of_three x y d la lb ld h e ↦ absurd (omega (arith, within _ e))
    | of_four x y d f lb ld lf h e ↦ (omega (arith, seen _ e 3 n), omega (arith, seen _ e 3 n))
  ]

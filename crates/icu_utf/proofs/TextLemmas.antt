-- The first character of a text, by its bytes: a text is well-formed, so its lead byte determines its size.
use Rattle.std.proofs.Common.{◌≡◌, ◌∙◌, ℕ, ◌+◌, ◌-◌, ◌*◌, ◌<◌, ◌≤◌, List, [], ◌∷◌, ◌++◌, length, get_or, ap, sym, subst, arith, Some, true, encode_utf8}
use Rattle.std.specs.Char.{IsScalar}
use Rattle.std.specs.Str.{IsUtf8, all_scalars, encode_utf8_all}
use Rattle.std.proofs.lemmas.Bool.{and_parts}
use Rattle.std.proofs.lemmas.List.{length-append}
use Rattle.icu_utf.specs.Trails.{IsTrail}
use Rattle.icu_utf.specs.Utf8.{IsFirstPart}
use Rattle.icu_utf.proofs.Utf8Parts.{four_found, three_found, trail_at, two_found}
use Rattle.icu_utf.proofs.Utf8Table.{of_four, of_one, of_three, of_two, row}

-- The byte is a trail byte: 0x80 and six bits.
abbrev pub HasSixBits : ℕ → Type 0
HasSixBits b = (128 ≤ b) × (b < 192)

-- A text that is not empty is a character and what follows it.
first_of : (bytes cs : List ℕ) → all_scalars cs ≡ true → encode_utf8_all cs ≡ bytes → 0 < length bytes
    → (c : ℕ) × IsScalar c × ((rest : List ℕ) × (bytes ≡ encode_utf8 c ++ rest))
first_of bytes [] s e n = absurd (omega (arith, n, ap (λ (bs : List ℕ). length bs) e))
first_of bytes (c ∷ cs) s e n = (c, (and_parts _ _ s).0, (encode_utf8_all cs, sym e))

module _ (bytes : List ℕ) (u : IsUtf8 bytes) (some : 0 < length bytes) where
  abbrev first : (c : ℕ) × IsScalar c × ((rest : List ℕ) × (bytes ≡ encode_utf8 c ++ rest))
  first = first_of bytes u.0 u.1.0 u.1.1 some

  abbrev c : ℕ
  c = first.0

  abbrev rest : List ℕ
  rest = first.2.0

  whole : (own : List ℕ) → encode_utf8 c ≡ own → bytes ≡ own ++ rest
  whole own e = first.2.1 ∙ ap (λ (bs : List ℕ). bs ++ rest) e

  byte : (own : List ℕ) → encode_utf8 c ≡ own → (k : ℕ) → get_or bytes k 0 ≡ get_or (own ++ rest) k 0
  byte own e k = ap (λ (bs : List ℕ). get_or bs k 0) (whole own e)

  long : (own : List ℕ) → encode_utf8 c ≡ own → length own ≤ length bytes
  long own e = omega (arith, ap (λ (bs : List ℕ). length bs) (whole own e), length-append own rest)

  -- A byte of the character is a trail byte, if it is one in the table.
  trail : (own : List ℕ) (e : encode_utf8 c ≡ own) (k b : ℕ) → k < length own → get_or (own ++ rest) k 0 ≡ 128 + b → b < 64
      → IsTrail bytes k b
  trail own e k b l h six = trail_at bytes k b (omega (arith, l, long own e)) (byte own e k ∙ h) six

  pub two_in_text : 128 ≤ get_or bytes 0 0 → get_or bytes 0 0 < 224
      → (192 ≤ get_or bytes 0 0) × (1 < length bytes) × HasSixBits (get_or bytes 1 0)
      × IsFirstPart bytes (Some ((get_or bytes 0 0 - 192) * 64 + (get_or bytes 1 0 - 128))) 2
  two_in_text from to = elim (row c first.1) [
    | of_one h e ↦ absurd (omega (arith, from, h, byte _ e 0))
    | of_two a b l h t e ↦ (
      omega (arith, byte _ e 0),
      omega (arith, long _ e),
      (omega (arith, byte _ e 1), omega (arith, byte _ e 1, t)),
      subst (λ (n : ℕ). IsFirstPart bytes (Some n) 2) (omega (arith, byte _ e 0, byte _ e 1))
          (two_found bytes a b (byte _ e 0) l h (trail _ e 1 b (omega arith) (omega arith) t)),
    )
    | of_three a b d la lb ld h e ↦ absurd (omega (arith, to, byte _ e 0))
    | of_four a b d f lb ld lf h e ↦ absurd (omega (arith, to, byte _ e 0))
  ]

  pub three_in_text : 224 ≤ get_or bytes 0 0 → get_or bytes 0 0 < 240
      → (2 < length bytes) × HasSixBits (get_or bytes 1 0) × HasSixBits (get_or bytes 2 0)
      × IsFirstPart bytes (Some (((get_or bytes 0 0 - 224) * 64 + (get_or bytes 1 0 - 128)) * 64 + (get_or bytes 2 0 - 128))) 3
  three_in_text from to = elim (row c first.1) [
    | of_one h e ↦ absurd (omega (arith, from, h, byte _ e 0))
    | of_two a b l h t e ↦ absurd (omega (arith, from, h, byte _ e 0))
    | of_three a b d la lb ld h e ↦ (
      omega (arith, long _ e),
      (omega (arith, byte _ e 1), omega (arith, byte _ e 1, lb)),
      (omega (arith, byte _ e 2), omega (arith, byte _ e 2, ld)),
      subst (λ (n : ℕ). IsFirstPart bytes (Some n) 3) (omega (arith, byte _ e 0, byte _ e 1, byte _ e 2))
          (three_found bytes a b d (byte _ e 0) la (trail _ e 1 b (omega arith) (omega arith) lb) h
          (trail _ e 2 d (omega arith) (omega arith) ld)),
    )
    | of_four a b d f lb ld lf h e ↦ absurd (omega (arith, to, byte _ e 0))
  ]

  pub four_in_text : 240 ≤ get_or bytes 0 0
      → (3 < length bytes) × (get_or bytes 0 0 < 245) × HasSixBits (get_or bytes 1 0) × HasSixBits (get_or bytes 2 0)
      × HasSixBits (get_or bytes 3 0)
      × IsFirstPart bytes (Some (((get_or bytes 0 0 - 240) * 64 + (get_or bytes 1 0 - 128)) * 4096
      + (get_or bytes 2 0 - 128) * 64 + (get_or bytes 3 0 - 128))) 4
  four_in_text from = elim (row c first.1) [
    | of_one h e ↦ absurd (omega (arith, from, h, byte _ e 0))
    | of_two a b l h t e ↦ absurd (omega (arith, from, h, byte _ e 0))
    | of_three a b d la lb ld h e ↦ absurd (omega (arith, from, la, byte _ e 0))
    | of_four a b d f lb ld lf h e ↦ (
      omega (arith, long _ e),
      (let top = h.1 in omega (arith, byte _ e 0)),
      (omega (arith, byte _ e 1), omega (arith, byte _ e 1, lb)),
      (omega (arith, byte _ e 2), omega (arith, byte _ e 2, ld)),
      (omega (arith, byte _ e 3), omega (arith, byte _ e 3, lf)),
      subst (λ (n : ℕ). IsFirstPart bytes (Some n) 4) (omega (arith, byte _ e 0, byte _ e 1, byte _ e 2, byte _ e 3))
          (four_found bytes a b d f (byte _ e 0) (trail _ e 1 b (omega arith) (omega arith) lb) h
          (trail _ e 2 d (omega arith) (omega arith) ld) (trail _ e 3 f (omega arith) (omega arith) lf)),
    )
  ]

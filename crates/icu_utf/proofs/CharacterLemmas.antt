-- The characters at the start and at the end of bytes.
use Rattle.std.proofs.Common.{◌≡◌, ◌∙◌, ℕ, ◌+◌, ◌-◌, ◌<◌, ◌≤◌, List, [], ◌∷◌, ◌++◌, refl, length, get_or, take, drop, ap, sym, arith, inl, inr, Some, encode_utf8}
use Rattle.std.specs.Prelude.{◌⊎◌}
use Rattle.std.specs.Char.{IsScalar, len_utf8}
use Rattle.std.specs.Str.{IsCharBoundary, IsUtf8, StartsWithNoChar, chars}
use Rattle.std.proofs.lemmas.Bool.{cases_lt}
use Rattle.std.proofs.lemmas.List.{append-nil, get_or-append_right, length-append, length-drop, length-take-le, nil_from_length, take-append-drop, take-take}
use Rattle.std.proofs.Math.Seq.{drop-append-le, drop-append_seam}
use Rattle.std.proofs.lemmas.Str.{IsCharBoundary-at_seam, IsCharBoundary-start, IsUtf8-drop, IsUtf8-encode, IsUtf8-take, chars-append, chars_from_encodes, encode_same, encodes-chars, len_utf8_bounds, length-encode}
use Rattle.icu_utf.specs.Trails.{IsLastLead}
use Rattle.icu_utf.specs.Utf8.{EndsWithNoChar, IsFirstPart, IsLastCharacter}

pub size_of : (c : ℕ) → (1 ≤ length (encode_utf8 c)) × (length (encode_utf8 c) ≤ 4)
size_of c = let b = len_utf8_bounds c in let e = length-encode c in (omega (arith, b.0), omega (arith, b.1))

-- No bytes are no character.
pub empty_starts : (bytes : List ℕ) → length bytes ≡ 0 → StartsWithNoChar bytes
empty_starts bytes none c rest s e =
    omega (arith, none, ap (λ (bs : List ℕ). length bs) e, length-append (encode_utf8 c) rest, (size_of c).0)

pub empty_ends : (bytes : List ℕ) → length bytes ≡ 0 → EndsWithNoChar bytes
empty_ends bytes none c front s e =
    omega (arith, none, ap (λ (bs : List ℕ). length bs) e, length-append front (encode_utf8 c), (size_of c).0)

-- ---- back over trail bytes
--
-- The bytes after the index, three at most, are trail bytes.
pub record PastTrails (bytes : List ℕ) (start : ℕ) : Type 0 where
  pub within : start < length bytes
  pub near : length bytes ≤ start + 4
  pub trails : (i : ℕ) → start < i → i < length bytes → (0x80 ≤ get_or bytes i 0) × (get_or bytes i 0 < 0xC0)

pub no_trails : (bytes : List ℕ) → 0 < length bytes → PastTrails bytes (length bytes - 1)
no_trails bytes some = record { within = omega arith; near = omega arith; trails = λ i l m. absurd (omega arith) }

pub more_trails : (bytes : List ℕ) (start : ℕ) → PastTrails bytes start → 0 < start → length bytes < start + 4
    → 0x80 ≤ get_or bytes start 0 → get_or bytes start 0 < 0xC0 → PastTrails bytes (start - 1)
more_trails bytes start p some near from to = record {
  within = omega (arith, p.within);
  near = omega arith;
  trails = λ i l m. elim (cases_lt start i) [
    | inl h ↦ p.trails i h m
    | inr h ↦ let same : i ≡ start = omega arith in rw same (from, to)
  ];
}

pub last_lead : (bytes : List ℕ) (start : ℕ) → PastTrails bytes start
    → (start ≡ 0) ⊎ (length bytes ≡ start + 4) ⊎ (get_or bytes start 0 < 0x80) ⊎ (0xC0 ≤ get_or bytes start 0) → IsLastLead bytes start
last_lead bytes start p lead = record { within = p.within; near = p.near; trails = p.trails; lead = lead }

-- ---- the bytes of a character
--
-- A character has no second one inside.
one_character : (c : ℕ) → IsScalar c → chars (encode_utf8 c) ≡ c ∷ []
one_character c s = sym (chars_from_encodes (c ∷ []) (encode_utf8 c) (IsUtf8-encode c s) (append-nil (encode_utf8 c)))

some_chars : (bytes : List ℕ) → IsUtf8 bytes → 0 < length bytes → 0 < length (chars bytes)
some_chars bytes u some = elim (cases_lt 0 (length (chars bytes))) [
  | inl h ↦ h
  | inr h ↦ let none : chars bytes ≡ [] = nil_from_length (chars bytes) (omega arith) in
      let e = encodes-chars bytes u in
      absurd (omega (arith, some, ap (λ (bs : List ℕ). length bs) (rw none at e)))
]

not_inside : (c i : ℕ) → IsScalar c → 0 < i → i < length (encode_utf8 c) → IsCharBoundary (encode_utf8 c) i → ⊥
not_inside c i s from to b =
    let own = encode_utf8 c in
    let u = IsUtf8-encode c s in
    let front = IsUtf8-take own i u b in
    let back = IsUtf8-drop own i u b in
    let both : chars own ≡ chars (take i own) ++ chars (drop i own) =
    ap chars (sym (take-append-drop i own)) ∙ chars-append (take i own) (drop i own) front in
    let count : length (chars own) ≡ 1 = ap (λ (cs : List ℕ). length cs) (one_character c s) in
    omega (
      arith,
      count,
      ap (λ (cs : List ℕ). length cs) both,
      length-append (chars (take i own)) (chars (drop i own)),
      some_chars (take i own) front (omega (arith, length-take-le i own (omega arith))),
      some_chars (drop i own) back (omega (arith, length-drop i own)),
    )

-- The bytes of a character after its first one are trail bytes, and the first one is none.
pub trail_of : (c i : ℕ) → IsScalar c → 0 < i → i < length (encode_utf8 c)
    → (0x80 ≤ get_or (encode_utf8 c) i 0) × (get_or (encode_utf8 c) i 0 < 0xC0)
trail_of c i s from to = elim (cases_lt (get_or (encode_utf8 c) i 0) 0x80) [
  | inl low ↦ absurd (not_inside c i s from to (omega arith, λ _ l. absurd (omega (arith, low, l))))
  | inr at_least ↦ elim (cases_lt (get_or (encode_utf8 c) i 0) 0xC0) [
    | inl below ↦ (at_least, below)
    | inr high ↦ absurd (not_inside c i s from to (omega arith, λ _ l. high))
  ]
]

pub lead_of : (c : ℕ) → IsScalar c → 0x80 ≤ get_or (encode_utf8 c) 0 0 → 0xC0 ≤ get_or (encode_utf8 c) 0 0
lead_of c s h = (IsCharBoundary-start (encode_utf8 c) (IsUtf8-encode c s)).1 (size_of c).0 h

-- ---- the character at the end
module _ (bytes : List ℕ) (start : ℕ) (l : IsLastLead bytes start) where
  -- If the bytes end with a character, it starts at that index.
  starts_there : (c : ℕ) (front : List ℕ) → IsScalar c → bytes ≡ front ++ encode_utf8 c → start ≡ length front
  starts_there c front s e =
      let own = encode_utf8 c in
      let long : length bytes ≡ length front + length own = ap (λ (bs : List ℕ). length bs) e ∙ length-append front own in
      let size = size_of c in
      let byte : (i : ℕ) → length front ≤ i → get_or bytes i 0 ≡ get_or own (i - length front) 0 =
      λ i h. ap (λ (bs : List ℕ). get_or bs i 0) e ∙ get_or-append_right front own (length front) i 0 refl h in
      elim (cases_lt start (length front)) [
        | inl before ↦
            let t = l.trails (length front) before (omega (arith, long, size.0)) in
            let zero_of : length front - length front ≡ 0 = omega arith in
            let first : get_or bytes (length front) 0 ≡ get_or own 0 0 =
            byte (length front) (omega arith) ∙ ap (λ (n : ℕ). get_or own n 0) zero_of in
            absurd (omega (arith, t.0, t.1, first, lead_of c s (omega (arith, t.0, first))))
        | inr from ↦ elim (cases_lt (length front) start) [
          | inl behind ↦
              let t = trail_of c (start - length front) s (omega arith) (omega (arith, long, l.within)) in
              let same = byte start from in
              absurd (elim l.lead [
                | inl zero_is ↦ omega (arith, zero_is)
                | inr others ↦ elim others [
                  | inl four ↦ omega (arith, four, long, size.1)
                  | inr bad ↦ elim bad [ inl low ↦ omega (arith, low, same, t.0) | inr high ↦ omega (arith, high, same, t.1) ]
                ]
              ])
          | inr to ↦ omega arith
        ]
      ]

  end_is : (c : ℕ) (front : List ℕ) → IsScalar c → bytes ≡ front ++ encode_utf8 c → drop start bytes ≡ encode_utf8 c
  end_is c front s e = rw (starts_there c front s e, e) (drop-append_seam front (encode_utf8 c))

  pub no_last : StartsWithNoChar (drop start bytes) → EndsWithNoChar bytes
  no_last none c front s e = none c [] s (end_is c front s e ∙ sym (append-nil (encode_utf8 c)))

  module _ (c size : ℕ) (p : IsFirstPart (drop start bytes) (Some c) size) where
    pub not_last : (size ≡ length (drop start bytes) → ⊥) → EndsWithNoChar bytes
    not_last differs d front s e =
        let same : c ≡ d = (encode_same c d (drop size (drop start bytes)) []
        (sym p.2 ∙ (end_is d front s e ∙ sym (append-nil (encode_utf8 d))))).0 in
        differs (p.1 ∙ (sym (length-encode c) ∙ (ap (λ (k : ℕ). length (encode_utf8 k)) same
        ∙ ap (λ (bs : List ℕ). length bs) (sym (end_is d front s e)))))

    pub is_last : size ≡ length (drop start bytes) → IsLastCharacter bytes c size
    is_last e =
        let rest : drop size (drop start bytes) ≡ [] =
        nil_from_length (drop size (drop start bytes)) (omega (arith, length-drop size (drop start bytes), e)) in
        let whole : drop start bytes ≡ encode_utf8 c =
        p.2 ∙ (ap (λ (bs : List ℕ). encode_utf8 c ++ bs) rest ∙ append-nil (encode_utf8 c)) in
        let place : start ≡ length bytes - size = omega (arith, e, length-drop start bytes, l.within) in
        record {
          scalar = p.0;
          size_is = p.1;
          within = omega (arith, e, length-drop start bytes);
          bytes_are = sym (take-append-drop start bytes)
              ∙ (ap (λ (bs : List ℕ). take start bytes ++ bs) whole ∙ ap (λ (n : ℕ). take n bytes ++ encode_utf8 c) place);
        }

-- ---- one character at the end
no_shorter : (c d : ℕ) (xs ys : List ℕ) → IsScalar c → IsScalar d → xs ++ encode_utf8 c ≡ ys ++ encode_utf8 d → length xs < length ys → ⊥
no_shorter c d xs ys s t e less =
    let inside = drop (length xs) ys in
    let parts : encode_utf8 c ≡ inside ++ encode_utf8 d = sym (drop-append_seam xs (encode_utf8 c))
    ∙ (ap (λ (bs : List ℕ). drop (length xs) bs) e ∙ drop-append-le (length xs) ys (encode_utf8 d) (omega arith)) in
    let long = ap (λ (bs : List ℕ). length bs) parts ∙ length-append inside (encode_utf8 d) in
    not_inside c (length inside) s (omega (arith, length-drop (length xs) ys)) (omega (arith, long, (size_of d).0))
    (IsCharBoundary-at_seam (encode_utf8 c) inside (encode_utf8 d) parts (IsUtf8-encode d t))

-- Two characters at the end of the same bytes are the same.
pub last_same : (c d : ℕ) (xs ys : List ℕ) → IsScalar c → IsScalar d → xs ++ encode_utf8 c ≡ ys ++ encode_utf8 d → c ≡ d
last_same c d xs ys s t e = elim (cases_lt (length xs) (length ys)) [
  | inl less ↦ absurd (no_shorter c d xs ys s t e less)
  | inr at_least ↦ elim (cases_lt (length ys) (length xs)) [
    | inl less ↦ absurd (no_shorter d c ys xs t s (sym e) less)
    | inr same ↦
        let long : length ys ≡ length xs = omega arith in
        let own : encode_utf8 c ≡ encode_utf8 d = sym (drop-append_seam xs (encode_utf8 c))
        ∙ (ap (λ (bs : List ℕ). drop (length xs) bs) e
        ∙ (ap (λ (n : ℕ). drop n (ys ++ encode_utf8 d)) (sym long) ∙ drop-append_seam ys (encode_utf8 d))) in
        (encode_same c d [] [] (append-nil (encode_utf8 c) ∙ (own ∙ sym (append-nil (encode_utf8 d))))).0
  ]
]

-- ---- parts of bytes
-- The first part of the rest is inside.
pub past_part : (bytes : List ℕ) (n size c : ℕ) → n ≤ length bytes → size ≡ len_utf8 c
    → drop n bytes ≡ encode_utf8 c ++ drop size (drop n bytes) → n + size ≤ length bytes
past_part bytes n size c l e p =
    let long = ap (λ (bs : List ℕ). length bs) p ∙ length-append (encode_utf8 c) (drop size (drop n bytes)) in
    omega (arith, l, long, e, length-encode c, length-drop n bytes, length-drop size (drop n bytes))

-- The last character of the first bytes.
pub last_part : (bytes : List ℕ) (n c size : ℕ) → n ≤ length bytes → IsLastCharacter (take n bytes) c size
    → (size ≤ n) × (take n bytes ≡ take (n - size) bytes ++ encode_utf8 c)
last_part bytes n c size l p =
    let long = length-take-le n bytes l in
    let there : size ≤ n = omega (arith, long, p.within) in
    let less : length (take n bytes) - size ≡ n - size = omega (arith, long) in (
      there,
      p.bytes_are ∙ ap (λ (bs : List ℕ). bs ++ encode_utf8 c)
          (ap (λ (k : ℕ). take k (take n bytes)) less ∙ take-take (n - size) n bytes (omega arith)),
    )

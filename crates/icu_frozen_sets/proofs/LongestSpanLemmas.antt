-- The loops of spans: what they have passed, and why they stop.
use Rattle.std.proofs.Common.{◌≡◌, ◌∙◌, sym, ap, subst, refl, ℕ, zero, suc, add-zero, ◌+◌, ◌-◌, ◌*◌, ◌<◌, ◌≤◌, List, [], ◌∷◌, ◌++◌, append_assoc, length, take, drop, get_or, Bool, true, false, arith, inl, inr, encode_utf8}
use Rattle.std.specs.Prelude.{◌⊎◌}
use Rattle.std.specs.Char.{IsScalar, len_utf8}
use Rattle.std.specs.List.{All, take_while}
use Rattle.std.specs.Str.{IsCharBoundary, IsUtf8, StartsWithNoChar, all_scalars, chars, encode_utf8_all}
use mathlib.Core.Bool.{beq}
use Rattle.std.proofs.lemmas.Bool.{and_parts, cases_lt, cond-false, cond-true, le-ltb, lt-ltb, true≢false}
use Rattle.std.proofs.lemmas.List.Sums.{take_while-cons}
use Rattle.std.proofs.lemmas.List.{append-nil, drop_more, drop-append-le, drop-drop, drop-take, length-append, length-drop, length-take-le, nil_from_length, take-append-drop, take-take, drop_at, take_at}
use Rattle.std.proofs.lemmas.List.Elements.{All-append, All-cons, All-drop, All-head, All-nil, All-tail, All-take, All-weaker}
use Rattle.std.proofs.lemmas.Str.{IsCharBoundary-from_drop, IsCharBoundary-from_take, IsUtf8-append, IsUtf8-drop, IsUtf8-encode, IsUtf8-nil, IsUtf8-take, chars-append, chars-nil, chars_from_encodes, chars_past_char, drop_past_char, encode_ascii, encode_same, encodes-chars, len_utf8_bounds, length-encode}
use Rattle.icu_utf.specs.Utf8.{EndsWithNoChar}
use Rattle.icu_utf.specs.Utf16.{code_points_of}
use Rattle.icu_utf.proofs.CallerLemmas.{last_same, length-code_points, size_of}
use Rattle.icu_frozen_sets.specs.LongestSpans.{AllHeld, IsSpan, IsSpanBack, unit_count}

-- ---- the first and the last character of a text that is not empty
record Head (bytes : List ℕ) : Type 0 where
  pub c : ℕ
  pub more : List ℕ
  pub scalar : IsScalar c
  pub parts : bytes ≡ encode_utf8 c ++ more

head_of : (bytes cs : List ℕ) → all_scalars cs ≡ true → encode_utf8_all cs ≡ bytes → 0 < length bytes → Head bytes
head_of bytes [] s e some = absurd (omega (arith, some, ap (λ (bs : List ℕ). length bs) e))
head_of bytes (c ∷ cs) s e some = record { c = c; more = encode_utf8_all cs; scalar = (and_parts _ _ s).0; parts = sym e }

head : (bytes : List ℕ) → IsUtf8 bytes → 0 < length bytes → Head bytes
head bytes u some = head_of bytes u.0 u.1.0 u.1.1 some

record Tail (bytes : List ℕ) : Type 0 where
  pub c : ℕ
  pub front : List ℕ
  pub scalar : IsScalar c
  pub front_utf8 : IsUtf8 front
  pub parts : bytes ≡ front ++ encode_utf8 c

tail_from : (c : ℕ) (cs : List ℕ) → IsScalar c → all_scalars cs ≡ true → Tail (encode_utf8 c ++ encode_utf8_all cs)
tail_from c [] s p = record { c = c; front = []; scalar = s; front_utf8 = IsUtf8-nil; parts = append-nil (encode_utf8 c) }
tail_from c (d ∷ cs) s p =
    let t = tail_from d cs (and_parts _ _ p).0 (and_parts _ _ p).1 in
    record {
      c = t.c;
      front = encode_utf8 c ++ t.front;
      scalar = t.scalar;
      front_utf8 = IsUtf8-append (encode_utf8 c) t.front (IsUtf8-encode c s) t.front_utf8;
      parts = ap (λ (bs : List ℕ). encode_utf8 c ++ bs) t.parts ∙ sym (append_assoc (encode_utf8 c) t.front (encode_utf8 t.c));
    }

tail_of : (bytes cs : List ℕ) → all_scalars cs ≡ true → encode_utf8_all cs ≡ bytes → 0 < length bytes → Tail bytes
tail_of bytes [] s e some = absurd (omega (arith, some, ap (λ (bs : List ℕ). length bs) e))
tail_of bytes (c ∷ cs) s e some = subst Tail e (tail_from c cs (and_parts _ _ s).0 (and_parts _ _ s).1)

tail : (bytes : List ℕ) → IsUtf8 bytes → 0 < length bytes → Tail bytes
tail bytes u some = tail_of bytes u.0 u.1.0 u.1.1 some

one_character : (c : ℕ) → IsScalar c → chars (encode_utf8 c) ≡ c ∷ []
one_character c s = sym (chars_from_encodes (c ∷ []) (encode_utf8 c) (IsUtf8-encode c s) (append-nil (encode_utf8 c)))

module _ (is_in : ℕ → Bool) (held : Bool) where
  abbrev IsAlike : ℕ → Type 0
  IsAlike c = is_in c ≡ held

  -- No character of the kind starts the bytes, or ends them.
  abbrev pub NoneStarts : List ℕ → Type 0
  NoneStarts bytes = (c : ℕ) (more : List ℕ) → IsScalar c → bytes ≡ encode_utf8 c ++ more → IsAlike c → ⊥

  abbrev pub NoneEnds : List ℕ → Type 0
  NoneEnds bytes = (c : ℕ) (front : List ℕ) → IsScalar c → bytes ≡ front ++ encode_utf8 c → IsAlike c → ⊥

  -- ---- parts of such bytes
  none_held : AllHeld is_in held []
  none_held = (IsUtf8-nil, rw chars-nil (All-nil IsAlike))

  one_held : (c : ℕ) → IsScalar c → IsAlike c → AllHeld is_in held (encode_utf8 c)
  one_held c s h = (IsUtf8-encode c s, rw (one_character c s) (All-cons IsAlike c [] h (All-nil IsAlike)))

  both_held : (xs ys : List ℕ) → AllHeld is_in held xs → AllHeld is_in held ys → AllHeld is_in held (xs ++ ys)
  both_held xs ys a b = (IsUtf8-append xs ys a.0 b.0, rw (chars-append xs ys a.0) (All-append IsAlike (chars xs) (chars ys) a.1 b.1))

  later_held : (xs ys : List ℕ) → IsUtf8 xs → IsUtf8 ys → AllHeld is_in held (xs ++ ys) → AllHeld is_in held ys
  later_held xs ys u v a =
      let whole : All IsAlike (chars xs ++ chars ys) = rw (chars-append xs ys u) at a.1 in
      let rest = All-drop IsAlike (length (chars xs)) (chars xs ++ chars ys) whole in
      (v, rw (drop_at (chars xs) (chars ys) (length (chars xs)) refl) at rest)

  earlier_held : (xs ys : List ℕ) → IsUtf8 xs → AllHeld is_in held (xs ++ ys) → AllHeld is_in held xs
  earlier_held xs ys u a =
      let whole : All IsAlike (chars xs ++ chars ys) = rw (chars-append xs ys u) at a.1 in
      let front = All-take IsAlike (length (chars xs)) (chars xs ++ chars ys) whole in
      (u, rw (take_at (chars xs) (chars ys) (length (chars xs)) refl) at front)

  head_alike : (bytes more : List ℕ) (c : ℕ) → AllHeld is_in held bytes → bytes ≡ encode_utf8 c ++ more → IsAlike c
  head_alike bytes more c a e = All-head IsAlike c (chars more) (rw (chars_past_char bytes more c a.0 e) at a.1)

  tail_alike : (bytes front : List ℕ) (c : ℕ) → IsScalar c → IsUtf8 front → AllHeld is_in held bytes → bytes ≡ front ++ encode_utf8 c
      → IsAlike c
  tail_alike bytes front c s u a e =
      let last = later_held front (encode_utf8 c) u (IsUtf8-encode c s) (subst (λ (bs : List ℕ). AllHeld is_in held bs) e a) in
      All-head IsAlike c [] (rw (one_character c s) at last.1)

  -- ---- the longest prefix
  module _ (bytes : List ℕ) (n : ℕ) (within : n ≤ length bytes) (alike : AllHeld is_in held (take n bytes)) where
    middle : (m : ℕ) → n < m → m ≤ length bytes → AllHeld is_in held (take m bytes) → AllHeld is_in held (drop n (take m bytes))
    middle m more there a =
        let front : List ℕ = take m bytes in
        let long : length front ≡ m = length-take-le m bytes there in
        let same : take n front ≡ take n bytes = take-take n m bytes (omega arith) in
        let u : IsUtf8 (take n front) = subst IsUtf8 (sym same) alike.0 in
        let v : IsUtf8 (drop n front) = IsUtf8-drop front n a.0 (IsCharBoundary-from_take front n a.0 (omega (arith, long)) u) in
        later_held (take n front) (drop n front) u v (subst (λ (bs : List ℕ). AllHeld is_in held bs) (sym (take-append-drop n front)) a)

    pub span_is : NoneStarts (drop n bytes) → IsSpan is_in held bytes n
    span_is none = record {
      within = within;
      alike = alike;
      longest = λ m more there a.
          let front : List ℕ = take m bytes in
          let long : length front ≡ m = length-take-le m bytes there in
          let rest = middle m more there a in
          let h = head (drop n front) rest.0 (omega (arith, long, length-drop n front)) in
          let parts : drop n bytes ≡ drop n front ++ drop m bytes =
          ap (λ (bs : List ℕ). drop n bs) (sym (take-append-drop m bytes)) ∙ drop-append-le n front (drop m bytes) (omega (arith, long)) in
          none h.c (h.more ++ drop m bytes) h.scalar
          (parts ∙ (ap (λ (bs : List ℕ). bs ++ drop m bytes) h.parts ∙ append_assoc (encode_utf8 h.c) h.more (drop m bytes)))
          (head_alike (drop n front) h.more h.c rest h.parts);
    }

    -- A span that is not empty starts with a character.
    pub begins : 0 < n → StartsWithNoChar bytes → ⊥
    begins some none =
        let h = head (take n bytes) alike.0 (omega (arith, some, length-take-le n bytes within)) in
        none h.c (h.more ++ drop n bytes) h.scalar (sym (take-append-drop n bytes)
        ∙ (ap (λ (bs : List ℕ). bs ++ drop n bytes) h.parts ∙ append_assoc (encode_utf8 h.c) h.more (drop n bytes)))

    -- At the end of the bytes.
    pub span_to_end : n ≡ length bytes → IsSpan is_in held bytes n
    span_to_end e = span_is
        (λ c more s p h. omega (
          arith,
          e,
          length-drop n bytes,
          ap (λ (bs : List ℕ). length bs) p,
          length-append (encode_utf8 c) more,
          (size_of c).0,
        ))

    -- At a character that is not of the kind.
    pub span_to_other : (c : ℕ) (more : List ℕ) → IsScalar c → drop n bytes ≡ encode_utf8 c ++ more → (IsAlike c → ⊥)
        → IsSpan is_in held bytes n
    span_to_other c more s p differs = span_is
        (λ d rest t e h. differs (subst IsAlike (encode_same d c rest more (sym e ∙ p)).0 h))

    -- At an ill-formed sequence.
    pub span_to_fault : StartsWithNoChar (drop n bytes) → IsSpan is_in held bytes n
    span_to_fault none = span_is (λ d rest t e h. none d rest t e)

    -- One more character of the kind.
    pub one_more : (c size : ℕ) → IsScalar c → size ≡ length (encode_utf8 c) → drop n bytes ≡ encode_utf8 c ++ drop (n + size) bytes
        → n + size ≤ length bytes → IsAlike c → AllHeld is_in held (take (n + size) bytes)
    one_more c size s long p there h =
        let parts : bytes ≡ (take n bytes ++ encode_utf8 c) ++ drop (n + size) bytes =
        sym (take-append-drop n bytes)
        ∙ (ap (λ (bs : List ℕ). take n bytes ++ bs) p ∙ sym (append_assoc (take n bytes) (encode_utf8 c) (drop (n + size) bytes))) in
        let whole : length (take n bytes ++ encode_utf8 c) ≡ n + size =
        length-append (take n bytes) (encode_utf8 c) ∙ omega (arith, long, length-take-le n bytes within) in
        let front : take (n + size) bytes ≡ take n bytes ++ encode_utf8 c =
        ap (λ (bs : List ℕ). take (n + size) bs) parts ∙ take_at (take n bytes ++ encode_utf8 c) (drop (n + size) bytes) (n + size) whole in
        rw front (both_held (take n bytes) (encode_utf8 c) alike (one_held c s h))

  pub starts : (bytes : List ℕ) → AllHeld is_in held (take 0 bytes)
  starts bytes = none_held

  -- ---- the longest suffix
  module _ (bytes : List ℕ) (n : ℕ) (within : n ≤ length bytes) (alike : AllHeld is_in held (drop n bytes)) where
    pub span_back_is : NoneEnds (take n bytes) → IsSpanBack is_in held bytes n
    span_back_is none = record {
      within = within;
      alike = alike;
      longest = λ m less a.
          let back : List ℕ = drop m bytes in
          let more : List ℕ = take (n - m) back in
          let far : m + (n - m) ≡ n = omega arith in
          let same : drop (n - m) back ≡ drop n bytes = drop-drop (n - m) m bytes ∙ ap (λ (k : ℕ). drop k bytes) far in
          let long : length back ≡ length bytes - m = length-drop m bytes in
          let u : IsUtf8 (drop (n - m) back) = subst IsUtf8 (sym same) alike.0 in
          let v : IsUtf8 more =
          IsUtf8-take back (n - m) a.0 (IsCharBoundary-from_drop back (n - m) (omega (arith, long, within)) u) in
          let held_more = earlier_held more (drop (n - m) back) v
          (subst (λ (bs : List ℕ). AllHeld is_in held bs) (sym (take-append-drop (n - m) back)) a) in
          let t = tail more v (omega (arith, length-take-le (n - m) back (omega (arith, long, within)), less)) in
          let whole : take n bytes ≡ take m bytes ++ more =
          sym (take-append-drop m (take n bytes))
          ∙ (ap (λ (bs : List ℕ). bs ++ drop m (take n bytes)) (take-take m n bytes (omega arith))
          ∙ ap (λ (bs : List ℕ). take m bytes ++ bs) (ap (λ (k : ℕ). drop m (take k bytes)) (sym far) ∙ drop-take m (n - m) bytes)) in
          none t.c (take m bytes ++ t.front) t.scalar
          (whole ∙ (ap (λ (bs : List ℕ). take m bytes ++ bs) t.parts ∙ sym (append_assoc (take m bytes) t.front (encode_utf8 t.c))))
          (tail_alike more t.front t.c t.scalar t.front_utf8 held_more t.parts);
    }

    pub ends : n < length bytes → EndsWithNoChar bytes → ⊥
    ends some none =
        let t = tail (drop n bytes) alike.0 (omega (arith, some, length-drop n bytes)) in
        none t.c (take n bytes ++ t.front) t.scalar (sym (take-append-drop n bytes)
        ∙ (ap (λ (bs : List ℕ). take n bytes ++ bs) t.parts ∙ sym (append_assoc (take n bytes) t.front (encode_utf8 t.c))))

    -- At the start of the bytes.
    pub back_to_start : n ≡ 0 → IsSpanBack is_in held bytes n
    back_to_start z = span_back_is
        (λ c front s p h. omega (
          arith,
          z,
          length-take-le n bytes within,
          ap (λ (bs : List ℕ). length bs) p,
          length-append front (encode_utf8 c),
          (size_of c).0,
        ))

    -- At a character that is not of the kind.
    pub back_to_other : (c : ℕ) (front : List ℕ) → IsScalar c → take n bytes ≡ front ++ encode_utf8 c → (IsAlike c → ⊥)
        → IsSpanBack is_in held bytes n
    back_to_other c front s p differs = span_back_is
        (λ d rest t e h. differs (subst IsAlike (last_same d c rest front t s (sym e ∙ p)) h))

    -- At an ill-formed sequence.
    pub back_to_fault : EndsWithNoChar (take n bytes) → IsSpanBack is_in held bytes n
    back_to_fault none = span_back_is (λ d rest t e h. none d rest t e)

    -- One more character of the kind.
    pub one_less : (c size : ℕ) → IsScalar c → size ≤ n → take n bytes ≡ take (n - size) bytes ++ encode_utf8 c → IsAlike c
        → AllHeld is_in held (drop (n - size) bytes)
    one_less c size s there p h =
        let parts : bytes ≡ take (n - size) bytes ++ (encode_utf8 c ++ drop n bytes) =
        sym (take-append-drop n bytes)
        ∙ (ap (λ (bs : List ℕ). bs ++ drop n bytes) p ∙ append_assoc (take (n - size) bytes) (encode_utf8 c) (drop n bytes)) in
        let back : drop (n - size) bytes ≡ encode_utf8 c ++ drop n bytes =
        ap (λ (bs : List ℕ). drop (n - size) bs) parts
        ∙ drop_at (take (n - size) bytes) (encode_utf8 c ++ drop n bytes) (n - size)
        (length-take-le (n - size) bytes (omega (arith, within))) in
        rw back (both_held (encode_utf8 c) (drop n bytes) (one_held c s h) alike)

  pub starts_back : (bytes : List ℕ) → AllHeld is_in held (drop (length bytes) bytes)
  starts_back bytes =
      let none : drop (length bytes) bytes ≡ [] =
      nil_from_length (drop (length bytes) bytes) (omega (arith, length-drop (length bytes) bytes)) in
      rw none none_held

-- ---- what is found out about a character
pub is_alike : (a b : Bool) → beq a b ≡ true → a ≡ b
is_alike true true e = refl
is_alike true false e = absurd (true≢false (sym e))
is_alike false true e = absurd (true≢false (sym e))
is_alike false false e = refl

pub is_other : (a b : Bool) → beq a b ≡ false → a ≡ b → ⊥
is_other true true e h = true≢false e
is_other true false e h = true≢false h
is_other false true e h = true≢false (sym h)
is_other false false e h = true≢false e

pub ascii_scalar : (c : ℕ) → c < 128 → IsScalar c
ascii_scalar c h = let low : c < 0xD800 = omega arith in rw (lt-ltb c 0xD800 low) refl

-- ---- ASCII
pub record PassesAscii (bytes : List ℕ) (start end : ℕ) : Type 0 where
  pub order : start ≤ end
  pub within : end ≤ length bytes
  pub ascii : (i : ℕ) → start ≤ i → i < end → get_or bytes i 0 < 128

-- The test is true of each byte from `start` to before `end`.
abbrev pub ArePassed : (ℕ → Bool) → List ℕ → ℕ → ℕ → Type 0
ArePassed p bytes start end = (i : ℕ) → start ≤ i → i < end → p (get_or bytes i 0) ≡ true

pub ascii_none : (bytes : List ℕ) (start : ℕ) → start ≤ length bytes → PassesAscii bytes start start
ascii_none bytes start l = record { order = omega arith; within = l; ascii = λ i a b. absurd (omega arith) }

pub ascii_one : (bytes : List ℕ) (start end : ℕ) → PassesAscii bytes start end → end < length bytes → get_or bytes end 0 < 128
    → PassesAscii bytes start (end + 1)
ascii_one bytes start end p l h = record {
  order = omega (arith, p.order);
  within = omega arith;
  ascii = λ i a b. elim (cases_lt i end) [
    | inl less ↦ p.ascii i a less
    | inr at_end ↦ let same : i ≡ end = omega arith in rw same h
  ];
}

pub passed_one : (p : ℕ → Bool) (bytes : List ℕ) (start end : ℕ) → ArePassed p bytes start end → p (get_or bytes end 0) ≡ true
    → ArePassed p bytes start (end + 1)
passed_one p bytes start end before h i a b = elim (cases_lt i end) [
  | inl less ↦ before i a less
  | inr at_end ↦ let same : i ≡ end = omega arith in rw same h
]

ascii_step : (bytes : List ℕ) (n : ℕ) → n < length bytes → get_or bytes n 0 < 128
    → drop n bytes ≡ encode_utf8 (get_or bytes n 0) ++ drop (n + 1) bytes
ascii_step bytes n l h =
    drop_more bytes n 0 l ∙ ap (λ (bs : List ℕ). bs ++ drop (n + 1) bytes) (sym (encode_ascii (get_or bytes n 0) h))

ascii_more : (is_in : ℕ → Bool) (held : Bool) (bytes : List ℕ) (k start : ℕ) → start + k ≤ length bytes
    → ((i : ℕ) → start ≤ i → i < start + k → get_or bytes i 0 < 128)
    → ((i : ℕ) → start ≤ i → i < start + k → is_in (get_or bytes i 0) ≡ held)
    → AllHeld is_in held (take start bytes) → AllHeld is_in held (take (start + k) bytes)
ascii_more is_in held bytes zero start l ascii alike before = rw add-zero before
ascii_more is_in held bytes (suc k) start l ascii alike before =
    let low = ascii start (omega arith) (omega arith) in
    let next = one_more is_in held bytes start (omega arith) before (get_or bytes start 0) 1 (ascii_scalar _ low)
    (sym (ap (λ (bs : List ℕ). length bs) (encode_ascii _ low))) (ascii_step bytes start (omega arith) low) (omega arith)
    (alike start (omega arith) (omega arith)) in
    let e : start + suc k ≡ start + 1 + k = omega arith in
    rw e (ascii_more is_in held bytes k (start + 1) (omega arith) (λ i a b. ascii i (omega arith) (omega arith))
    (λ i a b. alike i (omega arith) (omega arith)) next)

pub ascii_held : (is_in : ℕ → Bool) (held : Bool) (bytes : List ℕ) (start end : ℕ) → PassesAscii bytes start end
    → ArePassed (λ c. beq (is_in c) held) bytes start end → AllHeld is_in held (take start bytes) → AllHeld is_in held (take end bytes)
ascii_held is_in held bytes start end p passed before =
    let order = p.order in
    let within = p.within in
    let e : start + (end - start) ≡ end = omega arith in
    rw e at (ascii_more is_in held bytes (end - start) start (omega arith) (λ i a b. p.ascii i a (omega arith))
    (λ i a b. is_alike _ _ (passed i a (omega arith))) before)

-- An ASCII byte that is not of the kind.
pub ascii_other : (is_in : ℕ → Bool) (held : Bool) (bytes : List ℕ) (n : ℕ) → AllHeld is_in held (take n bytes) → n < length bytes
    → get_or bytes n 0 < 128 → beq (is_in (get_or bytes n 0)) held ≡ false → IsSpan is_in held bytes n
ascii_other is_in held bytes n before l low differs =
    span_to_other is_in held bytes n (omega arith) before (get_or bytes n 0) (drop (n + 1) bytes) (ascii_scalar _ low)
    (ascii_step bytes n l low) (is_other _ _ differs)

-- Characters of the kind up to `start`, and ASCII of the kind from there to n.
module _ (is_in : ℕ → Bool) (held : Bool) (bytes : List ℕ) (start n : ℕ) (order : start ≤ n) (within : n ≤ length bytes)
    (ascii : (i : ℕ) → start ≤ i → i < n → get_or bytes i 0 < 128) (passed : ArePassed (λ c. beq (is_in c) held) bytes start n)
    (before : AllHeld is_in held (take start bytes)) where
  pub after_ascii : AllHeld is_in held (take n bytes)
  after_ascii = ascii_held is_in held bytes start n (record { order = order; within = within; ascii = ascii }) passed before

  pub ascii_to_end : length bytes ≤ n → IsSpan is_in held bytes n
  ascii_to_end all = span_to_end is_in held bytes n within after_ascii (omega arith)

  pub ascii_to_other : n < length bytes → get_or bytes n 0 < 128 → beq (is_in (get_or bytes n 0)) held ≡ false
      → IsSpan is_in held bytes n
  ascii_to_other more low differs = ascii_other is_in held bytes n after_ascii more low differs

-- ---- units
pub count_append : (cs ds : List ℕ) → unit_count (cs ++ ds) ≡ unit_count cs + unit_count ds
count_append [] ds = omega arith
count_append (c ∷ cs) ds = let e = count_append cs ds in omega arith

pub count_most : (cs : List ℕ) → unit_count cs ≤ 2 * length cs
count_most [] = omega arith
count_most (c ∷ cs) = let e = count_most cs in elim (cases_lt c 0x10000) [
  | inl l ↦ rw (lt-ltb c 0x10000 l) (omega arith)
  | inr l ↦ rw (le-ltb c 0x10000 l) (omega arith)
]

front_all : (p : ℕ → Bool) (cs ds : List ℕ) → All (λ c. p c ≡ true) cs → take_while p (cs ++ ds) ≡ cs ++ take_while p ds
front_all p [] ds a = refl
front_all p (c ∷ cs) ds a =
    take_while-cons p c (cs ++ ds) ∙ (cond-true _ _ _ (All-head (λ k. p k ≡ true) c cs a)
    ∙ ap (λ (ks : List ℕ). c ∷ ks) (front_all p cs ds (All-tail (λ k. p k ≡ true) c cs a)))

-- The code points so far, in units that `rest` follows. They pass the test.
pub record PassesUnits (sound : Type 0) (p : ℕ → Bool) (units rest : List ℕ) (n : ℕ) : Type 0 where
  pub passed : List ℕ
  pub parts : code_points_of units ≡ passed ++ code_points_of rest
  pub count : n ≡ unit_count passed
  pub alike : sound → All (λ c. p c ≡ true) passed

module _ (sound : Type 0) (p : ℕ → Bool) (units : List ℕ) where
  pub units_none : PassesUnits sound p units units 0
  units_none = record { passed = []; parts = refl; count = refl; alike = λ s. All-nil (λ c. p c ≡ true) }

  module _ (rest : List ℕ) (n : ℕ) (u : PassesUnits sound p units rest n) where
    module _ (after : List ℕ) (c : ℕ) (e : code_points_of rest ≡ c ∷ code_points_of after) where
      longer : code_points_of units ≡ (u.passed ++ (c ∷ [])) ++ code_points_of after
      longer = u.parts ∙ (ap (λ (ks : List ℕ). u.passed ++ ks) e ∙ sym (append_assoc u.passed (c ∷ []) (code_points_of after)))

      counted : n + unit_count (c ∷ []) ≡ unit_count (u.passed ++ (c ∷ []))
      counted = let a = count_append u.passed (c ∷ []) in omega (arith, a, u.count)

      pub units_one : (sound → p c ≡ true) → PassesUnits sound p units after (n + unit_count (c ∷ []))
      units_one passes = record {
        passed = u.passed ++ (c ∷ []);
        parts = longer;
        count = counted;
        alike = λ s. All-append (λ k. p k ≡ true) u.passed (c ∷ []) (u.alike s)
            (All-cons (λ k. p k ≡ true) c [] (passes s) (All-nil (λ k. p k ≡ true)));
      }

      pub units_room : n + unit_count (c ∷ []) ≤ 2 * length units
      units_room =
          let all = ap (λ (ks : List ℕ). length ks) longer in
          omega (
            arith,
            counted,
            count_most (u.passed ++ (c ∷ [])),
            all,
            length-append (u.passed ++ (c ∷ [])) (code_points_of after),
            length-code_points units,
          )

    stopped : sound → take_while p (code_points_of rest) ≡ [] → n ≡ unit_count (take_while p (code_points_of units))
    stopped s last =
        let front : take_while p (code_points_of units) ≡ u.passed =
        ap (take_while p) u.parts ∙ (front_all p u.passed (code_points_of rest) (u.alike s)
        ∙ (ap (λ (ks : List ℕ). u.passed ++ ks) last ∙ append-nil u.passed)) in
        u.count ∙ ap unit_count (sym front)

    pub units_stop : sound → (c : ℕ) (more : List ℕ) → code_points_of rest ≡ c ∷ more → p c ≡ false
        → n ≡ unit_count (take_while p (code_points_of units))
    units_stop s c more e differs =
        stopped s (ap (take_while p) e ∙ (take_while-cons p c more ∙ cond-false _ _ _ differs))

    pub units_end : sound → code_points_of rest ≡ [] → n ≡ unit_count (take_while p (code_points_of units))
    units_end s e = stopped s (ap (take_while p) e)

-- ---- spans of UTF-8
wanted : (a b : Bool) → a ≡ b → beq a b ≡ true
wanted true true e = refl
wanted true false e = absurd (true≢false e)
wanted false true e = absurd (true≢false (sym e))
wanted false false e = refl

told : (b : Bool) → (b ≡ true) ⊎ (b ≡ false)
told true = inl refl
told false = inr refl

module _ (is_in : ℕ → Bool) (held : Bool) (bytes : List ℕ) (u : IsUtf8 bytes) where
  abbrev test : ℕ → Bool
  test c = beq (is_in c) held

  module _ (n : ℕ) (s : IsSpan is_in held bytes n) where
    boundary : IsCharBoundary bytes n
    boundary = IsCharBoundary-from_take bytes n u s.within s.alike.0

    -- The character after the span is of the other kind.
    next_other : (h : Head (drop n bytes)) → test h.c ≡ true → ⊥
    next_other h alike =
        let long = ap (λ (bs : List ℕ). length bs) h.parts ∙ length-append (encode_utf8 h.c) h.more in
        let size = length-encode h.c in
        let past : drop (n + len_utf8 h.c) bytes ≡ h.more = drop_past_char bytes h.more n h.c h.parts in
        let there : n + len_utf8 h.c ≤ length bytes = omega (arith, long, size, length-drop n bytes, s.within) in
        s.longest (n + len_utf8 h.c) (omega (arith, (len_utf8_bounds h.c).0)) there
        (one_more is_in held bytes n s.within s.alike h.c (len_utf8 h.c) h.scalar (sym size)
        (h.parts ∙ ap (λ (bs : List ℕ). encode_utf8 h.c ++ bs) (sym past)) there (is_alike _ _ alike))

    none_more : take_while test (chars (drop n bytes)) ≡ []
    none_more =
        let v : IsUtf8 (drop n bytes) = IsUtf8-drop bytes n u boundary in
        elim (cases_lt 0 (length (drop n bytes))) [
          | inl some ↦
              let h = head (drop n bytes) v some in
              let cs : chars (drop n bytes) ≡ h.c ∷ chars h.more = chars_past_char (drop n bytes) h.more h.c v h.parts in
              elim (told (test h.c)) [
                | inl alike ↦ absurd (next_other h alike)
                | inr differs ↦ ap (take_while test) cs ∙ (take_while-cons test h.c (chars h.more) ∙ cond-false _ _ _ differs)
              ]
          | inr none ↦
              let empty : drop n bytes ≡ [] = nil_from_length (drop n bytes) (omega arith) in
              ap (λ (bs : List ℕ). take_while test (chars bs)) empty ∙ ap (take_while test) chars-nil
        ]

    size_is : n ≡ length (encode_utf8_all (take_while test (chars bytes)))
    size_is =
        let front : List ℕ = take n bytes in
        let all : All (λ c. test c ≡ true) (chars front) =
        All-weaker (λ c. is_in c ≡ held) (λ c. test c ≡ true) (λ c h. wanted _ _ h) (chars front) s.alike.1 in
        let cs : chars bytes ≡ chars front ++ chars (drop n bytes) =
        ap chars (sym (take-append-drop n bytes)) ∙ chars-append front (drop n bytes) s.alike.0 in
        let these : take_while test (chars bytes) ≡ chars front =
        ap (take_while test) cs ∙ (front_all test (chars front) (chars (drop n bytes)) all
        ∙ (ap (λ (ks : List ℕ). chars front ++ ks) none_more ∙ append-nil (chars front))) in
        sym (ap (λ (ks : List ℕ). length (encode_utf8_all ks)) these
        ∙ (ap (λ (bs : List ℕ). length bs) (encodes-chars front s.alike.0) ∙ length-take-le n bytes s.within))

-- What a span says of UTF-8.
pub text_span : (is_in : ℕ → Bool) (held : Bool) (bytes : List ℕ) (n : ℕ) → IsSpan is_in held bytes n → IsUtf8 bytes
    → (n ≡ length (encode_utf8_all (take_while (λ c. beq (is_in c) held) (chars bytes)))) × IsCharBoundary bytes n
text_span is_in held bytes n s u = (size_is is_in held bytes u n s, boundary is_in held bytes u n s)

pub text_span_back : (is_in : ℕ → Bool) (held : Bool) (bytes : List ℕ) (n : ℕ) → IsSpanBack is_in held bytes n → IsUtf8 bytes
    → IsCharBoundary bytes n
text_span_back is_in held bytes n s u = IsCharBoundary-from_drop bytes n s.within s.alike.0

-- A text that is not empty starts, and ends, with a character.
pub text_starts : (bytes : List ℕ) → IsUtf8 bytes → 0 < length bytes → StartsWithNoChar bytes → ⊥
text_starts bytes u some none = let h = head bytes u some in none h.c h.more h.scalar h.parts

pub text_ends : (bytes : List ℕ) → IsUtf8 bytes → 0 < length bytes → EndsWithNoChar bytes → ⊥
text_ends bytes u some none = let t = tail bytes u some in none t.c t.front t.scalar t.parts

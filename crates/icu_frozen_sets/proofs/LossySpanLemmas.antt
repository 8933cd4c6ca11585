-- Spans in which ill-formed bytes count as U+FFFD: which bytes the characters have, and where a span ends.
use Rattle.std.proofs.Common.{◌≡◌, ◌∙◌, sym, ap, subst, refl, ℕ, ◌+◌, ◌-◌, ◌<◌, ◌≤◌, List, [], ◌∷◌, ◌++◌, append_assoc, length, take, drop, get_or, Bool, true, arith, inl, inr, Some, encode_utf8}
use Rattle.std.specs.Char.{IsScalar, len_utf8}
use Rattle.std.specs.List.{All}
use Rattle.std.specs.Str.{StartsWithNoChar, all_scalars, encode_utf8_all}
use Rattle.std.proofs.lemmas.Bool.{and_parts, cases_lt}
use Rattle.std.proofs.lemmas.List.{drop-append-le, drop-drop, drop_at, get_or-drop, get_or_append_left, length-append, length-drop, length-take-le, take-append-drop, take-take, take_all, take_at}
use Rattle.std.proofs.lemmas.List.Elements.{All-head, All-tail}
use Rattle.std.proofs.lemmas.Str.{chars_from_encodes, drop_past_char, encode_same, len_utf8_bounds, length-encode}
use Rattle.icu_utf.specs.Utf8.{EndsWithNoChar, IsFirstPart, IsLastCharacter}
use Rattle.icu_utf.proofs.CallerLemmas.{last_part, lead_of, trail_of}
use Rattle.icu_frozen_sets.specs.LongestSpans.{AllHeld, IsByteOf, IsHeldByte, IsLossySpan, IsLossySpanBack, IsSpan, IsSpanBack}
use Rattle.icu_frozen_sets.proofs.LongestSpanLemmas.{NoneEnds, NoneStarts, one_less, one_more}

both_scalars : (c : ℕ) (cs : List ℕ) → all_scalars (c ∷ cs) ≡ true → IsScalar c × (all_scalars cs ≡ true)
both_scalars c cs s = and_parts _ _ s

module _ (bytes : List ℕ) where
  -- The character c of m bytes is at offset s.
  abbrev pub IsAt : ℕ → ℕ → ℕ → Type 0
  IsAt s c m = IsFirstPart (drop s bytes) (Some c) m

  is_at : (s c : ℕ) (more : List ℕ) → IsScalar c → drop s bytes ≡ encode_utf8 c ++ more → IsAt s c (len_utf8 c)
  is_at s c more k e =
      let rest : drop (len_utf8 c) (drop s bytes) ≡ more =
      ap (λ (bs : List ℕ). drop (len_utf8 c) bs) e ∙ drop_at (encode_utf8 c) more (len_utf8 c) (length-encode c) in
      (k, refl, e ∙ ap (λ (bs : List ℕ). encode_utf8 c ++ bs) (sym rest))

  fits : (s c m : ℕ) → IsAt s c m → s + m ≤ length bytes
  fits s c m p =
      let long = ap (λ (bs : List ℕ). length bs) p.2 ∙ length-append (encode_utf8 c) (drop m (drop s bytes)) in
      omega (arith, long, length-encode c, p.1, length-drop s bytes, (len_utf8_bounds c).0)

  byte_at : (s c m k : ℕ) → IsAt s c m → k < m → get_or bytes (s + k) 0 ≡ get_or (encode_utf8 c) k 0
  byte_at s c m k p l =
      sym (get_or-drop s bytes k 0)
      ∙ (ap (λ (bs : List ℕ). get_or bs k 0) p.2
      ∙ get_or_append_left (encode_utf8 c) (drop m (drop s bytes)) 0 k (omega (arith, l, p.1, length-encode c)))

  -- A character has no second one inside.
  none_inside : (s c m t d n : ℕ) → IsAt s c m → IsAt t d n → s < t → t < s + m → ⊥
  none_inside s c m t d n p q l h =
      let there : s + (t - s) ≡ t = omega (arith, l) in
      let start : t + 0 ≡ t = omega arith in
      let first = byte_at t d n 0 q (omega (arith, q.1, (len_utf8_bounds d).0)) in
      let other = byte_at s c m (t - s) p (omega (arith, l, h)) in
      let both : get_or (encode_utf8 c) (t - s) 0 ≡ get_or (encode_utf8 d) 0 0 =
      sym other ∙ (ap (λ (i : ℕ). get_or bytes i 0) (there ∙ sym start) ∙ first) in
      let trail = trail_of c (t - s) p.0 (omega (arith, l)) (omega (arith, l, h, p.1, length-encode c)) in
      omega (arith, trail.1, both, lead_of d q.0 (omega (arith, trail.0, both)))

  same_size : (s c m d n : ℕ) → IsAt s c m → IsAt s d n → m ≡ n
  same_size s c m d n p q =
      let e = (encode_same c d (drop m (drop s bytes)) (drop n (drop s bytes)) (sym p.2 ∙ q.2)).0 in
      p.1 ∙ (ap (λ (k : ℕ). len_utf8 k) e ∙ sym q.1)

  -- The bytes up to the end of a character.
  ends_at : (s c m : ℕ) → IsAt s c m → take (s + m) bytes ≡ take s bytes ++ encode_utf8 c
  ends_at s c m p =
      let own : List ℕ = take s bytes ++ encode_utf8 c in
      let rest : List ℕ = drop m (drop s bytes) in
      let whole : bytes ≡ own ++ rest = sym (take-append-drop s bytes)
      ∙ (ap (λ (bs : List ℕ). take s bytes ++ bs) p.2 ∙ sym (append_assoc (take s bytes) (encode_utf8 c) rest)) in
      let long : length own ≡ s + m = length-append (take s bytes) (encode_utf8 c)
      ∙ omega (arith, length-take-le s bytes (omega (arith, fits s c m p)), length-encode c, p.1) in
      ap (λ (bs : List ℕ). take (s + m) bs) whole ∙ take_at own rest (s + m) long

  -- No character starts before the offset and ends after it.
  abbrev pub IsWhole : ℕ → Type 0
  IsWhole e = (s c m : ℕ) → IsAt s c m → s < e → s + m ≤ e

  pub whole_start : IsWhole 0
  whole_start s c m p l = absurd (omega (arith, l))

  pub whole_end : IsWhole (length bytes)
  whole_end s c m p l = fits s c m p

  -- No character starts in these bytes, or ends in them.
  abbrev pub NoneFrom : ℕ → ℕ → Type 0
  NoneFrom n r = (i : ℕ) → n ≤ i → i < r → StartsWithNoChar (drop i bytes)

  abbrev pub NoneTo : ℕ → ℕ → Type 0
  NoneTo r n = (i : ℕ) → r < i → i ≤ n → EndsWithNoChar (take i bytes)

  abbrev IsNoByte : ℕ → Type 0
  IsNoByte i = (c : ℕ) → ¬ (IsByteOf bytes i c)

  no_byte : (n r i : ℕ) → IsWhole n → NoneFrom n r → n ≤ i → i < r → IsNoByte i
  no_byte n r i w none l h c b = elim (cases_lt b.start n) [
    | inl before ↦ omega (arith, w b.start c b.size b.character before, l, b.before)
    | inr from ↦
        none b.start from (omega (arith, b.from, h)) c (drop b.size (drop b.start bytes)) b.character.0 b.character.2
  ]

  whole_over : (n r : ℕ) → IsWhole n → n ≤ r → NoneFrom n r → IsWhole r
  whole_over n r w order none s c m p l = elim (cases_lt s n) [
    | inl before ↦ omega (arith, w s c m p before, order)
    | inr from ↦ absurd (none s from l c (drop m (drop s bytes)) p.0 p.2)
  ]

  no_byte_back : (n r i : ℕ) → IsWhole n → NoneTo r n → r ≤ i → i < n → IsNoByte i
  no_byte_back n r i w none l h c b =
      let end = w b.start c b.size b.character (omega (arith, b.from, h)) in
      none (b.start + b.size) (omega (arith, b.before, l)) end c (take b.start bytes) b.character.0
      (ends_at b.start c b.size b.character)

  whole_over_back : (n r : ℕ) → IsWhole n → r ≤ n → NoneTo r n → IsWhole r
  whole_over_back n r w order none s c m p l = elim (cases_lt r (s + m)) [
    | inl crosses ↦
        let end = w s c m p (omega (arith, l, order)) in
        absurd (none (s + m) crosses end c (take s bytes) p.0 (ends_at s c m p))
    | inr ends ↦ ends
  ]

  module _ (is_in : ℕ → Bool) (held : Bool) where
    abbrev IsHeld : ℕ → Type 0
    IsHeld i = IsHeldByte is_in held bytes i

    -- A character of the kind, between two offsets, has the byte.
    record Covers (i from to : ℕ) : Type 0 where
      pub start : ℕ
      pub c : ℕ
      pub size : ℕ
      pub character : IsAt start c size
      pub after : from ≤ start
      pub first : start ≤ i
      pub before : i < start + size
      pub within : start + size ≤ to
      pub alike : is_in c ≡ held

    covers : (cs : List ℕ) (from : ℕ) (rest : List ℕ) → drop from bytes ≡ encode_utf8_all cs ++ rest → all_scalars cs ≡ true
        → All (λ c. is_in c ≡ held) cs → (i : ℕ) → from ≤ i → i < from + length (encode_utf8_all cs)
        → Covers i from (from + length (encode_utf8_all cs))
    covers [] from rest e s a i l h = absurd (omega (arith, l, h))
    covers (c ∷ cs) from rest e s a i l h =
        let more : List ℕ = encode_utf8_all cs ++ rest in
        let here : drop from bytes ≡ encode_utf8 c ++ more = e ∙ append_assoc (encode_utf8 c) (encode_utf8_all cs) rest in
        let long : length (encode_utf8 c ++ encode_utf8_all cs) ≡ length (encode_utf8 c) + length (encode_utf8_all cs) =
        length-append (encode_utf8 c) (encode_utf8_all cs) in
        let size = length-encode c in
        let scalars = both_scalars c cs s in
        elim (cases_lt i (from + len_utf8 c)) [
          | inl near ↦ record {
            start = from;
            c = c;
            size = len_utf8 c;
            character = is_at from c more scalars.0 here;
            after = omega arith;
            first = l;
            before = near;
            within = omega (arith, long, size);
            alike = All-head (λ d. is_in d ≡ held) c cs a;
          }
          | inr far ↦
              let r = covers cs (from + len_utf8 c) rest (drop_past_char bytes more from c here) scalars.1
              (All-tail (λ d. is_in d ≡ held) c cs a) i far (omega (arith, h, long, size)) in
              record {
                start = r.start;
                c = r.c;
                size = r.size;
                character = r.character;
                after = omega (arith, r.after);
                first = r.first;
                before = r.before;
                within = omega (arith, r.within, long, size);
                alike = r.alike;
              }
        ]

    text_covers : (from n : ℕ) (text rest : List ℕ) → drop from bytes ≡ text ++ rest → AllHeld is_in held text → length text ≡ n
        → (i : ℕ) → from ≤ i → i < from + n → Covers i from (from + n)
    text_covers from n text rest e h long i l m =
        let cs : List ℕ = h.0.0 in
        let own : encode_utf8_all cs ≡ text = h.0.1.1 in
        let alike : All (λ c. is_in c ≡ held) cs =
        subst (λ (ks : List ℕ). All (λ c. is_in c ≡ held) ks) (sym (chars_from_encodes cs text h.0 own)) h.1 in
        let size : length (encode_utf8_all cs) ≡ n = ap (λ (bs : List ℕ). length bs) own ∙ long in
        let r = covers cs from rest (e ∙ ap (λ (bs : List ℕ). bs ++ rest) (sym own)) h.0.1.0 alike i l (omega (arith, m, size)) in
        subst (λ (k : ℕ). Covers i from (from + k)) size r

    held_byte : (i from to : ℕ) → Covers i from to → IsHeld i
    held_byte i from to k = inl (
      k.c,
      record { start = k.start; size = k.size; character = k.character; from = k.first; before = k.before },
      k.alike,
    )

    -- ---- forwards
    -- The first n bytes are of the kind, and no character of the kind follows.
    pub record IsReached (n : ℕ) : Type 0 where
      pub within : n ≤ length bytes
      pub whole : IsWhole n
      pub alike : (i : ℕ) → i < n → IsHeld i
      pub stops : NoneStarts is_in held (drop n bytes)

    whole_after : (from n : ℕ) → IsWhole from → ((i : ℕ) → from ≤ i → i < from + n → Covers i from (from + n)) → IsWhole (from + n)
    whole_after from n w k s c m p l = elim (cases_lt s from) [
      | inl before ↦ omega (arith, w s c m p before)
      | inr here ↦
          let r = k s here l in
          elim (cases_lt r.start s) [
            | inl less ↦ absurd (none_inside r.start r.c r.size s c m r.character p less r.before)
            | inr same ↦
                let e : r.start ≡ s = omega (arith, same, r.first) in
                let q : IsAt s r.c r.size = subst (λ (t : ℕ). IsAt t r.c r.size) e r.character in
                omega (arith, same_size s r.c r.size c m q p, e, r.within)
          ]
    ]

    none_next : (rest : List ℕ) (k : ℕ) → IsSpan is_in held rest k → NoneStarts is_in held (drop k rest)
    none_next rest k s d more t e a =
        let long = ap (λ (bs : List ℕ). length bs) e ∙ length-append (encode_utf8 d) more in
        let size = length-encode d in
        let some = (len_utf8_bounds d).0 in
        let past : drop (k + len_utf8 d) rest ≡ more = drop_past_char rest more k d e in
        let there : k + len_utf8 d ≤ length rest = omega (arith, long, size, length-drop k rest, s.within, some) in
        s.longest (k + len_utf8 d) (omega (arith, some)) there
        (one_more is_in held rest k s.within s.alike d (len_utf8 d) t (sym size)
        (e ∙ ap (λ (bs : List ℕ). encode_utf8 d ++ bs) (sym past)) there a)

    pub after_span : (next k : ℕ) → next ≤ length bytes → IsWhole next → ((i : ℕ) → i < next → IsHeld i)
        → IsSpan is_in held (drop next bytes) k → IsReached (next + k)
    after_span next k l w h s =
        let rest : List ℕ = drop next bytes in
        let covered = text_covers next k (take k rest) (drop k rest) (sym (take-append-drop k rest)) s.alike (length-take-le k rest s.within) in
        record {
          within = omega (arith, s.within, length-drop next bytes, l);
          whole = whole_after next k w covered;
          alike = λ i m. elim (cases_lt i next) [
            | inl before ↦ h i before
            | inr from ↦ held_byte i next (next + k) (covered i from m)
          ];
          stops = λ d more t e a. none_next rest k s d more t (drop-drop k next bytes ∙ e) a;
        }

    pub first_span : (k : ℕ) → IsSpan is_in held bytes k → IsReached k
    first_span k s =
        let same : 0 + k ≡ k = omega arith in
        subst IsReached same (after_span 0 k (omega arith) whole_start (λ i m. absurd (omega (arith, m))) s)

    -- A span goes on after ill-formed bytes.
    pub next_span : (n r k : ℕ) → IsReached n → is_in 0xFFFD ≡ held → n ≤ r → r ≤ length bytes → NoneFrom n r
        → IsSpan is_in held (drop r bytes) k → IsReached (r + k)
    next_span n r k reached replaced order within none s =
        after_span r k within (whole_over n r reached.whole order none)
        (λ i m. elim (cases_lt i n) [
          | inl before ↦ reached.alike i before
          | inr from ↦ inr (no_byte n r i reached.whole none from m, replaced)
        ]) s

    module _ (n : ℕ) (reached : IsReached n) where
      stopped : (IsNoByte n × (is_in 0xFFFD ≡ held) → ⊥) → IsLossySpan is_in held bytes n
      stopped other = record {
        within = reached.within;
        alike = reached.alike;
        longest = λ l h. elim h [
          | inl t ↦ elim (cases_lt t.1.start n) [
            | inl before ↦ omega (arith, reached.whole t.1.start t.0 t.1.size t.1.character before, t.1.before)
            | inr from ↦
                let e : n ≡ t.1.start = omega (arith, from, t.1.from) in
                reached.stops t.0 (drop t.1.size (drop t.1.start bytes)) t.1.character.0
                (ap (λ (k : ℕ). drop k bytes) e ∙ t.1.character.2) t.2
          ]
          | inr t ↦ other t
        ];
      }

      pub lossy_to_end : length bytes ≤ n → IsLossySpan is_in held bytes n
      lossy_to_end all = record { within = reached.within; alike = reached.alike; longest = λ l h. omega (arith, all, l) }

      pub lossy_to_fault : (is_in 0xFFFD ≡ held → ⊥) → IsLossySpan is_in held bytes n
      lossy_to_fault differs = stopped (λ t. differs t.1)

      pub lossy_to_other : (c size : ℕ) → IsAt n c size → IsLossySpan is_in held bytes n
      lossy_to_other c size p = stopped (λ t. t.0 c (record {
        start = n;
        size = size;
        character = p;
        from = omega arith;
        before = omega (arith, p.1, (len_utf8_bounds c).0);
      }))

    -- ---- from the end
    -- The bytes from offset n on are of the kind, and no character of the kind ends there.
    pub record IsReachedBack (n : ℕ) : Type 0 where
      pub within : n ≤ length bytes
      pub whole : IsWhole n
      pub alike : (i : ℕ) → n ≤ i → i < length bytes → IsHeld i
      pub stops : NoneEnds is_in held (take n bytes)

    none_last : (front : List ℕ) (k : ℕ) → IsSpanBack is_in held front k → NoneEnds is_in held (take k front)
    none_last front k s c f t e a =
        let size = length-encode c in
        let some = (len_utf8_bounds c).0 in
        let long = ap (λ (bs : List ℕ). length bs) e ∙ length-append f (encode_utf8 c) in
        let all = length-take-le k front s.within in
        let there : len_utf8 c ≤ k = omega (arith, long, all, size) in
        let own : take (k - len_utf8 c) front ≡ f =
        sym (take-take (k - len_utf8 c) k front (omega arith))
        ∙ (ap (λ (bs : List ℕ). take (k - len_utf8 c) bs) e ∙ take_at f (encode_utf8 c) (k - len_utf8 c) (omega (arith, long, all, size))) in
        s.longest (k - len_utf8 c) (omega (arith, some, there))
        (one_less is_in held front k s.within s.alike c (len_utf8 c) t there
        (e ∙ ap (λ (bs : List ℕ). bs ++ encode_utf8 c) (sym own)) a)

    pub before_span : (next k : ℕ) → next ≤ length bytes → IsWhole next → ((i : ℕ) → next ≤ i → i < length bytes → IsHeld i)
        → IsSpanBack is_in held (take next bytes) k → IsReachedBack k
    before_span next k l w h s =
        let front : List ℕ = take next bytes in
        let long : length front ≡ next = length-take-le next bytes l in
        let order : k ≤ next = omega (arith, s.within, long) in
        let parts : drop k bytes ≡ drop k front ++ drop next bytes =
        ap (λ (bs : List ℕ). drop k bs) (sym (take-append-drop next bytes)) ∙ drop-append-le k front (drop next bytes) s.within in
        let covered = text_covers k (next - k) (drop k front) (drop next bytes) parts s.alike (omega (arith, length-drop k front, long)) in
        let there : k + (next - k) ≡ next = omega (arith, order) in
        record {
          within = omega (arith, order, l);
          whole = λ t c m p less. elim (cases_lt k (t + m)) [
            | inl crosses ↦
                let end = w t c m p (omega (arith, less, order)) in
                let r = covered k (omega arith) (omega (arith, crosses, end, there)) in
                let e : r.start ≡ k = omega (arith, r.after, r.first) in
                let q : IsAt k r.c r.size = subst (λ (j : ℕ). IsAt j r.c r.size) e r.character in
                absurd (none_inside t c m k r.c r.size p q less crosses)
            | inr ends ↦ ends
          ];
          alike = λ i from m. elim (cases_lt i next) [
            | inl before ↦ held_byte i k (k + (next - k)) (covered i from (omega (arith, before, there)))
            | inr after ↦ h i after m
          ];
          stops = λ c f t e a. none_last front k s c f t (take-take k next bytes order ∙ e) a;
        }

    pub last_span : (k : ℕ) → IsSpanBack is_in held bytes k → IsReachedBack k
    last_span k s =
        let all : take (length bytes) bytes ≡ bytes = take_all (length bytes) bytes (omega arith) in
        before_span (length bytes) k (omega arith) whole_end (λ i l m. absurd (omega (arith, l, m)))
        (subst (λ (bs : List ℕ). IsSpanBack is_in held bs k) (sym all) s)

    -- A span goes on before ill-formed bytes.
    pub next_span_back : (n r k : ℕ) → IsReachedBack n → is_in 0xFFFD ≡ held → r ≤ n → NoneTo r n
        → IsSpanBack is_in held (take r bytes) k → IsReachedBack k
    next_span_back n r k reached replaced order none s =
        before_span r k (omega (arith, order, reached.within)) (whole_over_back n r reached.whole order none)
        (λ i from m. elim (cases_lt i n) [
          | inl before ↦ inr (no_byte_back n r i reached.whole none from before, replaced)
          | inr after ↦ reached.alike i after m
        ]) s

    module _ (n : ℕ) (reached : IsReachedBack n) where
      stopped_back : ((i : ℕ) → n ≡ i + 1 → IsNoByte i × (is_in 0xFFFD ≡ held) → ⊥) → IsLossySpanBack is_in held bytes n
      stopped_back other = record {
        within = reached.within;
        alike = reached.alike;
        longest = λ i e h. elim h [
          | inl t ↦
              let end = reached.whole t.1.start t.0 t.1.size t.1.character (omega (arith, t.1.from, e)) in
              let same : n ≡ t.1.start + t.1.size = omega (arith, end, t.1.before, e) in
              reached.stops t.0 (take t.1.start bytes) t.1.character.0
              (ap (λ (k : ℕ). take k bytes) same ∙ ends_at t.1.start t.0 t.1.size t.1.character) t.2
          | inr t ↦ other i e t
        ];
      }

      pub lossy_back_to_start : n ≡ 0 → IsLossySpanBack is_in held bytes n
      lossy_back_to_start z = record { within = reached.within; alike = reached.alike; longest = λ i e h. omega (arith, z, e) }

      pub lossy_back_to_fault : (is_in 0xFFFD ≡ held → ⊥) → IsLossySpanBack is_in held bytes n
      lossy_back_to_fault differs = stopped_back (λ i e t. differs t.1)

      pub lossy_back_to_other : (c size : ℕ) → IsLastCharacter (take n bytes) c size → IsLossySpanBack is_in held bytes n
      lossy_back_to_other c size p =
          let last = last_part bytes n c size reached.within p in
          let start : ℕ = n - size in
          let before : take n bytes ≡ take start bytes ++ encode_utf8 c = last.1 in
          let parts : bytes ≡ take start bytes ++ (encode_utf8 c ++ drop n bytes) =
          sym (take-append-drop n bytes)
          ∙ (ap (λ (bs : List ℕ). bs ++ drop n bytes) before ∙ append_assoc (take start bytes) (encode_utf8 c) (drop n bytes)) in
          let here : drop start bytes ≡ encode_utf8 c ++ drop n bytes =
          ap (λ (bs : List ℕ). drop start bs) parts
          ∙ drop_at (take start bytes) (encode_utf8 c ++ drop n bytes) start
          (length-take-le start bytes (omega (arith, reached.within))) in
          let size_is = p.size_is in
          stopped_back (λ i e t. t.0 c (record {
            start = start;
            size = len_utf8 c;
            character = is_at start c (drop n bytes) p.scalar here;
            from = omega (arith, e, size_is, (len_utf8_bounds c).0, last.0);
            before = omega (arith, e, size_is, last.0);
          }))

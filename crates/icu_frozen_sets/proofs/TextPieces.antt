-- Cutting a text into its spans.
use Rattle.std.proofs.Common.{◌≡◌, ◌∙◌, sym, ap, subst, refl, ℕ, ◌+◌, ◌<◌, List, [], ◌∷◌, ◌++◌, length, take, drop, Bool, true, false, not, ◌&&◌, arith, encode_utf8}
use Rattle.std.specs.List.{All, take_while}
use Rattle.std.specs.Iterator.{Drains, Yields}
use Rattle.std.specs.Str.{all_scalars, chars, encode_utf8_all, IsUtf8}
use mathlib.Core.Bool.{beq}
use Rattle.std.proofs.lemmas.Bool.{and_parts, cond-true, cond-false, true≢false, false≢true}
use Rattle.std.proofs.lemmas.List.{append_cancel_left, length-append, take-append-drop}
use Rattle.std.proofs.lemmas.List.Elements.{All-cons, All-nil}
use Rattle.std.proofs.lemmas.List.Sums.{take_while-cons}
use Rattle.std.proofs.Math.Seq.{take-append_seam}
use Rattle.std.proofs.lemmas.Str.{chars-encodes, chars_from_encodes, chars_past_char, encodes-append, encodes-chars, length-encode, len_utf8_bounds, scalars-chars}
use Rattle.icu_invlist.specs.InversionList.{holds}
use Rattle.icu_frozen_sets.specs.Spans.{AreAlternating, AreSpans, GivesSpan, IsFirstSpan, IsOfOneKind, TextToCut, front_of}
use Rattle.icu_frozen_sets.specs.declared.spans.Span.{Span}

-- ---- lists
-- The first element, if there is one, does not pass.
abbrev pub StopsAt : (ℕ → Bool) → List ℕ → Type 0
StopsAt p [] = Unit {0}
StopsAt p (d ∷ ds) = p d ≡ false

-- The list is cs, its longest prefix that passes, followed by ds.
pub record IsCut (p : ℕ → Bool) (cs ds : List ℕ) : Type 0 where
  pub parts : cs ≡ take_while p cs ++ ds
  pub passes : All (λ c. p c ≡ true) (take_while p cs)
  pub stops : StopsAt p ds

cut_cons : (p : ℕ → Bool) (c : ℕ) (cs : List ℕ) → ((ds : List ℕ) × IsCut p cs ds) → (b : Bool) → p c ≡ b
    → (ds : List ℕ) × IsCut p (c ∷ cs) ds
cut_cons p c cs r true y =
    let e : take_while p (c ∷ cs) ≡ c ∷ take_while p cs = take_while-cons p c cs ∙ cond-true _ _ _ y in (
      r.0,
      record {
        parts = ap (λ (xs : List ℕ). c ∷ xs) r.1.parts ∙ ap (λ (xs : List ℕ). xs ++ r.0) (sym e);
        passes = subst (λ (xs : List ℕ). All (λ k. p k ≡ true) xs) (sym e) (All-cons (λ k. p k ≡ true) c (take_while p cs) y r.1.passes);
        stops = r.1.stops;
      },
    )
cut_cons p c cs r false y =
    let e : take_while p (c ∷ cs) ≡ [] = take_while-cons p c cs ∙ cond-false _ _ _ y in (
      c ∷ cs,
      record {
        parts = ap (λ (xs : List ℕ). xs ++ c ∷ cs) (sym e);
        passes = subst (λ (xs : List ℕ). All (λ k. p k ≡ true) xs) (sym e) (All-nil (λ k. p k ≡ true));
        stops = y;
      },
    )

pub cut : (p : ℕ → Bool) (cs : List ℕ) → (ds : List ℕ) × IsCut p cs ds
cut p [] = ([], record { parts = refl; passes = All-nil (λ k. p k ≡ true); stops = tt })
cut p (c ∷ cs) = cut_cons p c cs (cut p cs) (p c) refl

scalars_parts : (xs ys : List ℕ) → all_scalars (xs ++ ys) ≡ true → (all_scalars xs ≡ true) × (all_scalars ys ≡ true)
scalars_parts [] ys e = (refl, e)
scalars_parts (x ∷ xs) ys e =
    let a = and_parts _ _ e in
    let r = scalars_parts xs ys a.1 in
    (ap (λ (b : Bool). b && all_scalars xs) a.0 ∙ r.0, r.1)

same_bools : (a b : Bool) → beq a b ≡ true → a ≡ b
same_bools true true e = refl
same_bools true false e = absurd (false≢true e)
same_bools false true e = absurd (false≢true e)
same_bools false false e = refl

same_as_itself : (a : Bool) → beq a a ≡ true
same_as_itself true = refl
same_as_itself false = refl

other_kind : (x a b : Bool) → beq x b ≡ false → beq x a ≡ true → a ≡ not b
other_kind true true true e f = absurd (true≢false e)
other_kind true true false e f = refl
other_kind true false true e f = absurd (true≢false e)
other_kind true false false e f = absurd (false≢true f)
other_kind false true true e f = absurd (false≢true f)
other_kind false true false e f = absurd (true≢false e)
other_kind false false true e f = refl
other_kind false false false e f = absurd (true≢false e)

-- ---- the first span
-- Whether the membership of a character is as given.
abbrev pub is_kind : List ℕ → Bool → ℕ → Bool
is_kind set is_held = λ c. beq (holds set c) is_held

module _ (set text : List ℕ) (u : IsUtf8 text) (is_held : Bool) where
  abbrev passes : ℕ → Bool
  passes = is_kind set is_held

  abbrev behind : List ℕ
  behind = (cut passes (chars text)).0

  is_cut : IsCut passes (chars text) behind
  is_cut = (cut passes (chars text)).1

  front_scalars : (all_scalars (take_while passes (chars text)) ≡ true) × (all_scalars behind ≡ true)
  front_scalars =
      scalars_parts (take_while passes (chars text)) behind (ap (λ (cs : List ℕ). all_scalars cs) (sym is_cut.parts) ∙ scalars-chars text u)

  text_parts : text ≡ front_of set is_held text ++ encode_utf8_all behind
  text_parts =
      sym (encodes-chars text u) ∙ ap (λ (cs : List ℕ). encode_utf8_all cs) is_cut.parts
      ∙ encodes-append (take_while passes (chars text)) behind

  pub take_front : take (length (front_of set is_held text)) text ≡ front_of set is_held text
  take_front =
      let front = front_of set is_held text in
      ap (λ (bs : List ℕ). take (length front) bs) text_parts ∙ take-append_seam front (encode_utf8_all behind)

  -- The characters of the prefix.
  front_chars : chars (front_of set is_held text) ≡ take_while passes (chars text)
  front_chars = chars-encodes (take_while passes (chars text)) front_scalars.0

  pub front_alike : All (λ c. holds set c ≡ is_held) (chars (front_of set is_held text))
  front_alike = rw front_chars (λ k d h. same_bools _ _ (is_cut.passes k d h))

  module _ (rest : List ℕ) (joined : text ≡ front_of set is_held text ++ rest) where
    rest_is : encode_utf8_all behind ≡ rest
    rest_is = append_cancel_left (front_of set is_held text) (encode_utf8_all behind) rest (sym text_parts ∙ joined)

    pub rest_utf8 : IsUtf8 rest
    rest_utf8 = (behind, (front_scalars.1, rest_is))

    pub rest_stops : StopsAt passes (chars rest)
    rest_stops = rw (← chars_from_encodes behind rest rest_utf8 rest_is) is_cut.stops

-- The prefix is not empty if the first character passes.
pub front_some : (set text more : List ℕ) (c : ℕ) → IsUtf8 text → text ≡ encode_utf8 c ++ more
    → 0 < length (front_of set (holds set c) text)
front_some set text more c u step =
    let p : ℕ → Bool = is_kind set (holds set c) in
    let e : take_while p (chars text) ≡ c ∷ take_while p (chars more) =
    ap (λ (cs : List ℕ). take_while p cs) (chars_past_char text more c u step) ∙ take_while-cons p c (chars more)
    ∙ cond-true _ _ _ (same_as_itself (holds set c)) in
    let n : length (front_of set (holds set c) text) ≡ length (encode_utf8 c) + length (encode_utf8_all (take_while p (chars more))) =
    ap (λ (cs : List ℕ). length (encode_utf8_all cs)) e ∙ length-append (encode_utf8 c) (encode_utf8_all (take_while p (chars more))) in
    let one = (len_utf8_bounds c).0 in let l = length-encode c in
    omega (arith, n, one, l)

pub is_first_span : (set text more : List ℕ) (c : ℕ) (span : Span) (rest : List ℕ) (end : ℕ)
    → IsUtf8 text → text ≡ encode_utf8 c ++ more → span.is_held ≡ holds set c
    → end ≡ length (front_of set span.is_held text) → span.text.now ≡ take end text → rest ≡ drop end text → IsFirstSpan set text span rest
is_first_span set text more c span rest end u step kind e t r =
    let longest : span.text.now ≡ front_of set span.is_held text = t ∙ ap (λ (n : ℕ). take n text) e ∙ take_front set text u span.is_held in
    record {
      joined = rw (t, r) (sym (take-append-drop end text));
      some = rw (longest, kind) (front_some set text more c u step);
      longest = longest;
    }

-- ---- all spans
-- A span after one of the other kind.
unlike : (h : ℕ → Bool) (a b : Bool) (cs : List ℕ) → StopsAt (λ c. beq (h c) b) cs
    → 0 < length (encode_utf8_all (take_while (λ c. beq (h c) a) cs)) → a ≡ not b
unlike h a b [] s l = absurd (omega (arith, l))
unlike h a b (c ∷ cs) s l = elim (beq (h c) a) as (λ v. beq (h c) a ≡ v → a ≡ not b) [
  | true ↦ λ y. other_kind (h c) a b s y
  | false ↦ λ y. let e : take_while (λ k. beq (h k) a) (c ∷ cs) ≡ [] = take_while-cons (λ k. beq (h k) a) c cs ∙ cond-false _ _ _ y in
      absurd (omega (arith, ap (λ (ds : List ℕ). length (encode_utf8_all ds)) e, l))
] refl

alternates : (set : List ℕ) (x : Span) (s t : TextToCut) (xs : List Span) → s.set ≡ set
    → StopsAt (is_kind set x.is_held) (chars s.text) → Yields GivesSpan s xs t → AreAlternating xs → AreAlternating (x ∷ xs)
alternates set x s t [] e stops y a = tt
alternates set x s t (b ∷ xs) e stops y a =
    let f = y.1.steps in (
      unlike (holds set) b.is_held x.is_held (chars s.text) stops
          (subst (λ (ends : List ℕ). 0 < length (front_of ends b.is_held s.text)) e
          (subst (λ (bs : List ℕ). 0 < length bs) f.longest f.some)),
      a,
    )

spans_of_run : (s t : TextToCut) (xs : List Span) → IsUtf8 s.text → t.text ≡ [] → Yields GivesSpan s xs t → AreSpans s.set s.text xs
spans_of_run s t [] u n y =
    record { joined = sym (ap (λ (v : TextToCut). v.text) y ∙ n); alike = All-nil (IsOfOneKind s.set); alternating = tt }
spans_of_run s t (x ∷ xs) u n y =
    let j = y.0 in
    let f = y.1.steps in
    let joined : s.text ≡ front_of s.set x.is_held s.text ++ j.text = f.joined ∙ ap (λ (bs : List ℕ). bs ++ j.text) f.longest in
    let r = spans_of_run j t xs (rest_utf8 s.set s.text u x.is_held j.text joined) n y.2 in
    record {
      joined = ap (λ (bs : List ℕ). x.text.now ++ bs) r.joined ∙ sym f.joined;
      alike = All-cons (IsOfOneKind s.set) x xs
          (record { some = f.some; alike = rw f.longest (front_alike s.set s.text u x.is_held) })
          (rw y.1.set at r.alike);
      alternating = alternates s.set x j t xs y.1.set (rest_stops s.set s.text u x.is_held j.text joined) y.2 r.alternating;
    }

-- What `next` yields until nothing is left are the spans of the text.
pub spans_of_drained : (s : TextToCut) (xs : List Span) → IsUtf8 s.text → Drains GivesSpan s xs → AreSpans s.set s.text xs
spans_of_drained s xs u d = spans_of_run s d.1.0 xs u d.1.2.steps.0 d.1.1

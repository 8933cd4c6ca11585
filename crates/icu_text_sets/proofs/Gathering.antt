-- Building a set from texts, one after another.
use Rattle.std.proofs.Common.{◌≡◌, ℕ, ◌<◌, List, [], ◌∷◌, ◌++◌, Bool, true, false, ◌||◌, ◌&&◌, ◌==◌, Option, Some, None, refl, sym, ap, ◌∙◌, arith, inl, inr}
use Rattle.std.specs.Str.{chars, bytes_eq, IsUtf8, encode_utf8_all, all_scalars}
use Rattle.std.proofs.Math.Utf8.{scalar, scalar_cases}
use Rattle.std.proofs.lemmas.List.Folds.{list_any-append}
use Rattle.std.proofs.lemmas.Slice.Eq.{bytes_eq-Decides}
use Rattle.std.proofs.lemmas.Option.{same_Some}
use Rattle.std.proofs.lemmas.Bool.{or_cases}
use Rattle.std.proofs.lemmas.Bool.Decides.{same_from_decides, Decides-eqb, Decides-like}
use Rattle.std.proofs.lemmas.Str.{encodes-chars, scalars-chars}
use Rattle.icu_zerovec.specs.CodePoints.{code_point_limit}
use Rattle.icu_invlist.specs.InversionList.{holds, ends_up_to, Acts, either}
use Rattle.icu_text_sets.specs.TextSet.{only_of, only_char, is_among}

-- The boundaries and the texts contain what was added so far.
pub record IsGathered (given : List (List ℕ)) (ends : List ℕ) (texts : List (List ℕ)) : Type 0 where
  pub plain : (t : List ℕ) → is_among texts t ≡ true → only_char t ≡ None
  pub strings : (t : List ℕ) → only_char t ≡ None → is_among texts t ≡ is_among given t
  pub points : (t : List ℕ) (c : ℕ) → IsUtf8 t → only_char t ≡ Some c → holds ends c ≡ is_among given t
  pub scalars : (c : ℕ) → c < code_point_limit → holds ends c ≡ true → scalar c ≡ true

pub gathered_none : IsGathered [] [] []
unfolding ends_up_to
gathered_none = record {
  plain = λ t h. absurd cc;
  strings = λ t n. refl;
  points = λ t c u n. refl;
  scalars = λ c h n. absurd cc;
}

-- ---- a text of one character
only_is : (cs : List ℕ) (c : ℕ) → only_of cs ≡ Some c → cs ≡ c ∷ []
only_is [] c h = absurd cc
only_is (d ∷ []) c h = let e : d ≡ c = cc in ap (λ z. z ∷ []) e
only_is (d ∷ e ∷ cs) c h = absurd cc

and_first : (a b : Bool) → (a && b) ≡ true → a ≡ true
and_first true b h = refl
and_first false b h = h

scalar_first : (c : ℕ) → all_scalars (c ∷ []) ≡ true → scalar c ≡ true
scalar_first c h = and_first (scalar c) true h

scalar_of : (t : List ℕ) (c : ℕ) → IsUtf8 t → only_char t ≡ Some c → scalar c ≡ true
scalar_of t c u o = scalar_first c (sym (ap all_scalars (only_is (chars t) c o)) ∙ scalars-chars t u)

scalar_small : (c : ℕ) → scalar c ≡ true → c < code_point_limit
scalar_small c h = elim (scalar_cases c h) [ inl k ↦ omega arith | inr k ↦ omega (arith, k.1) ]

-- Texts of one character are equal if and only if the characters are.
same_char : (x t : List ℕ) (d c : ℕ) → IsUtf8 x → IsUtf8 t → only_char x ≡ Some d → only_char t ≡ Some c → bytes_eq x t ≡ (c == d)
same_char x t d c u v o p =
    let spelled : (y : List ℕ) (e : ℕ) → IsUtf8 y → only_char y ≡ Some e → y ≡ encode_utf8_all (e ∷ []) =
    λ y e w q. sym (encodes-chars y w) ∙ ap encode_utf8_all (only_is (chars y) e q) in
    same_from_decides (bytes_eq x t) (c == d) (bytes_eq-Decides x t)
    (Decides-like (c == d)
    (λ e. spelled x d u o ∙ ap (λ z. encode_utf8_all (z ∷ [])) (sym e) ∙ sym (spelled t c v p))
    (λ e. same_Some c d (sym p ∙ sym (ap only_char e) ∙ o))
    (Decides-eqb c d))

-- A text of one character differs from every other text.
other_kind : (x t : List ℕ) (d : ℕ) (a b : Option ℕ) → only_char x ≡ a → only_char t ≡ b → (a ≡ b → ⊥) → bytes_eq x t ≡ false
other_kind x t d a b o p n = ne_from (bytes_eq x t) refl
  where
    ne_from : (r : Bool) → bytes_eq x t ≡ r → r ≡ false
    ne_from false e = refl
    ne_from true e = absurd (n (sym o ∙ ap only_char ((bytes_eq-Decides x t).0 e) ∙ p))

-- ---- one more
or_none : (b c : Bool) → c ≡ false → (b || c) ≡ b
or_none true c h = refl
or_none false c h = h

among_one : (x t : List ℕ) → is_among (x ∷ []) t ≡ bytes_eq x t
among_one x t = or_none (bytes_eq x t) false refl

among_more : (given : List (List ℕ)) (x t : List ℕ) → is_among (given ++ x ∷ []) t ≡ (is_among given t || bytes_eq x t)
among_more given x t = list_any-append (λ y. bytes_eq y t) given (x ∷ []) ∙ ap (λ z. is_among given t || z) (among_one x t)

-- A text among the strings and one more that does not have exactly one character.
plain_more : (texts : List (List ℕ)) (x t : List ℕ) → ((t : List ℕ) → is_among texts t ≡ true → only_char t ≡ None) → only_char x ≡ None
    → is_among (texts ++ x ∷ []) t ≡ true → only_char t ≡ None
plain_more texts x t p o h = elim (or_cases (is_among texts t) (bytes_eq x t) (sym (among_more texts x t) ∙ h)) [
  | inl a ↦ p t a
  | inr e ↦ sym (ap only_char ((bytes_eq-Decides x t).0 e)) ∙ o
]

pub with_string : (given : List (List ℕ)) (ends : List ℕ) (texts : List (List ℕ)) (x : List ℕ) → IsGathered given ends texts
    → only_char x ≡ None
    → IsGathered (given ++ x ∷ []) ends (texts ++ x ∷ [])
with_string given ends texts x g o = record {
  plain = λ t. plain_more texts x t g.plain o;
  strings = λ t n. among_more texts x t ∙ ap (λ z. z || bytes_eq x t) (g.strings t n) ∙ sym (among_more given x t);
  points = λ t c u n. g.points t c u n ∙ sym
      (among_more given x t ∙ or_none (is_among given t) (bytes_eq x t) (other_kind x t 0 None (Some c) o n (λ e. cc)));
  scalars = g.scalars;
}

pub with_char : (given : List (List ℕ)) (ends ends' : List ℕ) (texts : List (List ℕ)) (x : List ℕ) (d : ℕ) → IsGathered given ends texts
    → IsUtf8 x → only_char x ≡ Some d
    → Acts either ends (λ n. n == d) ends' → IsGathered (given ++ x ∷ []) ends' texts
with_char given ends ends' texts x d g v o a = record {
  plain = g.plain;
  strings = λ t n. g.strings t n ∙ sym (among_more given x t
      ∙ or_none (is_among given t) (bytes_eq x t) (other_kind x t d (Some d) None o n (λ e. cc)));
  points = λ t c u n.
      a c (scalar_small c (scalar_of t c u n)) ∙ ap (λ z. z || (c == d)) (g.points t c u n)
      ∙ ap (λ z. is_among given t || z) (sym (same_char x t d c v u o n)) ∙ sym (among_more given x t);
  scalars = λ c h n. added c d (holds ends c) (sym (a c h) ∙ n) (g.scalars c h) (scalar_of x d v o);
}
  where
    added : (c d : ℕ) (b : Bool) → (b || (c == d)) ≡ true → (b ≡ true → scalar c ≡ true) → scalar d ≡ true → scalar c ≡ true
    added c d true h f s = f refl
    added c d false h f s = ap scalar ((Decides-eqb c d).0 h) ∙ s

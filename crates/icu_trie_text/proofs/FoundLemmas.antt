-- The walk over a text that looks for a value.
use Rattle.std.proofs.Common.{◌≡◌, ◌∙◌, sym, ap, refl, ℕ, ◌+◌, List, [], ◌∷◌, ◌++◌, append_assoc, length, Bool, true, false, Option, Some, arith, encode_utf8}
use Rattle.std.specs.Char.{len_utf8}
use Rattle.std.specs.List.{All}
use Rattle.std.specs.Str.{IsCharBoundary, IsUtf8, all_scalars, chars, encode_utf8_all}
use Rattle.std.proofs.lemmas.Bool.{and_parts}
use Rattle.std.proofs.lemmas.List.{append-nil, length-append}
use Rattle.std.proofs.lemmas.List.Elements.{All-append, All-cons, All-nil}
use Rattle.std.proofs.lemmas.Str.{IsCharBoundary-at_seam, encodes-append, encodes-chars, length-encode, scalars-chars}
use Rattle.icu_trie.specs.Parts.{Parts, trie_value}
use Rattle.icu_trie_text.specs.Found.{AnswersOf, IsAcceptedFront, IsFirstAccepted}
use Rattle.icu_trie_text.specs.Indices.{index_item, with_indices}

-- ---- the offsets of characters
--
-- The number of bytes of characters.
abbrev pub size : List ℕ → ℕ
size cs = length (encode_utf8_all cs)

size-push : (cs : List ℕ) (c : ℕ) → size (cs ++ c ∷ []) ≡ size cs + len_utf8 c
size-push cs c =
    let parts = ap (λ (bs : List ℕ). length bs) (encodes-append cs (c ∷ [])) in
    let both = length-append (encode_utf8_all cs) (encode_utf8_all (c ∷ [])) in
    let one = ap (λ (bs : List ℕ). length bs) (append-nil (encode_utf8 c)) in
    omega (arith, parts, both, one, length-encode c)

later_scalars : (xs ys : List ℕ) → all_scalars (xs ++ ys) ≡ true → all_scalars ys ≡ true
later_scalars [] ys e = e
later_scalars (x ∷ xs) ys e = later_scalars xs ys (and_parts _ _ e).1

-- A text may be cut between two of its characters.
pub boundary_between : (text before after : List ℕ) → IsUtf8 text → chars text ≡ before ++ after → IsCharBoundary text (size before)
boundary_between text before after u e =
    let seam : text ≡ encode_utf8_all before ++ encode_utf8_all after =
    sym (encodes-chars text u) ∙ ap (λ (cs : List ℕ). encode_utf8_all cs) e ∙ encodes-append before after in
    let scalars : all_scalars after ≡ true = later_scalars before after (ap (λ (cs : List ℕ). all_scalars cs) (sym e)
    ∙ scalars-chars text u) in
    IsCharBoundary-at_seam text (encode_utf8_all before) (encode_utf8_all after) seam (after, (scalars, refl))

-- ---- the walk
module _ {F T : Type 0} (post : F → T → Bool → Type 0) (f : F) (trie : Parts T) (answer : Bool) (text : List ℕ) where
  -- f returned `answer` for the values of all characters that were passed, and what is left starts
  -- after them.
  pub record IsPassed (left : List (ℕ × ℕ × Option T)) : Type 0 where
    pub before : List ℕ
    pub after : List ℕ
    pub characters : chars text ≡ before ++ after
    pub answered : All (AnswersOf post f trie answer) before
    pub left_is : left ≡ with_indices trie (size before) after

  pub passed_none : IsPassed (with_indices trie 0 (chars text))
  passed_none = record {
    before = [];
    after = chars text;
    characters = refl;
    answered = All-nil (AnswersOf post f trie answer);
    left_is =
        refl;
  }

  -- An item of what is left is between the characters before it and others.
  record IsBetween (before : List ℕ) (item : ℕ × ℕ × T) (rest : List (ℕ × ℕ × Option T)) : Type 0 where
    after : List ℕ
    characters : chars text ≡ before ++ item.1 ∷ after
    offset : item.0 ≡ size before
    value : trie_value trie item.1 ≡ Some item.2
    rest_is : rest ≡ with_indices trie (size before + len_utf8 item.1) after

  between : (before cs : List ℕ) (item : ℕ × ℕ × T) (rest : List (ℕ × ℕ × Option T)) → chars text ≡ before ++ cs
      → index_item item ∷ rest ≡ with_indices trie (size before) cs → IsBetween before item rest
  between before [] item rest e s = cc
  between before (c ∷ cs) item rest e s =
      let first : index_item item ≡ (size before, c, trie_value trie c) = cc in
      let offset : item.0 ≡ size before = ap (λ (p : ℕ × ℕ × Option T). p.0) first in
      let character : item.1 ≡ c = ap (λ (p : ℕ × ℕ × Option T). p.1) first in
      let value : Some item.2 ≡ trie_value trie c = ap (λ (p : ℕ × ℕ × Option T). p.2) first in
      let others : rest ≡ with_indices trie (size before + len_utf8 c) cs = cc in
      record {
        after = cs;
        characters = rw character e;
        offset = offset;
        value = ap (λ (n : ℕ). trie_value trie n) character ∙ sym value;
        rest_is = rw character others;
      }

  module _ (item : ℕ × ℕ × T) (left rest : List (ℕ × ℕ × Option T)) (p : IsPassed left) (step : left ≡ index_item item ∷ rest) where
    here : IsBetween p.before item rest
    here = between p.before p.after item rest p.characters (sym step ∙ p.left_is)

    pub passed_boundary : IsUtf8 text → IsCharBoundary text item.0
    passed_boundary u = rw here.offset (boundary_between text p.before (item.1 ∷ here.after) u here.characters)

    pub passed_more : post f item.2 answer → IsPassed rest
    passed_more y =
        let more : AnswersOf post f trie answer item.1 = (item.2, here.value, y) in
        record {
          before = p.before ++ item.1 ∷ [];
          after = here.after;
          characters = here.characters ∙ sym (append_assoc p.before (item.1 ∷ []) here.after);
          answered = All-append (AnswersOf post f trie answer) p.before (item.1 ∷ []) p.answered
              (All-cons (AnswersOf post f trie answer) item.1 [] more (All-nil (AnswersOf post f trie answer)));
          left_is = here.rest_is ∙ ap (λ (n : ℕ). with_indices trie n here.after) (sym (size-push p.before item.1));
        }

  -- All characters were passed.
  pub passed_all : (left : List (ℕ × ℕ × Option T)) → IsPassed left → left ≡ [] → All (AnswersOf post f trie answer) (chars text)
  passed_all left p e = all_of p.before p.after p.characters p.answered (sym e ∙ p.left_is) where
    all_of : (before after : List ℕ) → chars text ≡ before ++ after → All (AnswersOf post f trie answer) before
        → [] ≡ with_indices trie (size before) after → All (AnswersOf post f trie answer) (chars text)
    all_of before [] e a n = rw (e, append-nil before) a
    all_of before (c ∷ cs) e a n = cc

module _ {F T : Type 0} (post : F → T → Bool → Type 0) (f : F) (trie : Parts T) (text : List ℕ) (item : ℕ × ℕ × T)
    (left rest : List (ℕ × ℕ × Option T)) (step : left ≡ index_item item ∷ rest) where
  pub first_accepted : IsPassed post f trie false text left → post f item.2 true
      → IsFirstAccepted post f trie text (record { offset = item.0; character = item.1; value = item.2 })
  first_accepted p y =
      let h = here post f trie false text item left rest p step in
      record {
        before = p.before;
        after = h.after;
        characters = h.characters;
        offset = h.offset;
        refused = p.answered;
        value = h.value;
        accepted = y;
      }

  pub front_before : IsPassed post f trie true text left → post f item.2 false → IsAcceptedFront post f trie text item.0
  front_before p y =
      let h = here post f trie true text item left rest p step in
      record {
        front = p.before;
        after = item.1 ∷ h.after;
        characters = h.characters;
        end_is = h.offset;
        accepted = p.answered;
        longest = (item.2, h.value, y);
      }

pub whole_front : {F T : Type 0} (post : F → T → Bool → Type 0) (f : F) (trie : Parts T) (text : List ℕ)
    (left : List (ℕ × ℕ × Option T)) → IsUtf8 text → IsPassed post f trie true text left → left ≡ []
    → IsAcceptedFront post f trie text (length text)
whole_front post f trie text left u p e = record {
  front = chars text;
  after = [];
  characters = sym (append-nil (chars text));
  end_is = ap (λ (bs : List ℕ). length bs) (sym (encodes-chars text u));
  accepted = passed_all post f trie true text left p e;
  longest = tt;
}

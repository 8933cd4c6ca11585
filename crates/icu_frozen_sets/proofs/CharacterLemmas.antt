-- A character of a text, and whether a set contains it.
use Rattle.std.proofs.Common.{◌≡◌, ◌∙◌, ap, sym, ℕ, ◌+◌, ◌-◌, ◌<◌, List, ◌∷◌, ◌++◌, Bool, Some, length, drop, get_or, arith}
use Rattle.std.specs.Char.{encode_utf8}
use Rattle.std.proofs.lemmas.List.{drop_more, drop-drop, length-append, length-drop}
use Rattle.std.proofs.lemmas.Str.{encode_ascii, len_utf8_bounds, length-encode}
use Rattle.icu_utf.specs.Utf8.{IsFirstPart}
use Rattle.icu_invlist.specs.InversionList.{holds}
use Rattle.icu_frozen_sets.specs.Inside.Characters.{IsAsked}

-- The first character was decoded.
pub asked_first : (ends text : List ℕ) (c size : ℕ) (held : Bool) → IsFirstPart text (Some c) size → held ≡ holds ends c
    → IsAsked ends text 0 held size
asked_first ends text c size held first told =
    let b = (len_utf8_bounds c).0 in
    let s = first.1 in
    let long = ap (λ (bs : List ℕ). length bs) first.2 ∙ length-append (encode_utf8 c) (drop size text) in
    record {
      character = c;
      stands = first.2;
      order = omega (arith, b, s);
      within = omega (arith, s, long, length-encode c, length-drop size text);
      told = told;
    }

-- An ASCII character.
pub asked_ascii : (ends text : List ℕ) (c : ℕ) (held : Bool) → c ≡ get_or text 0 0 → 0 < length text → c < 128 → held ≡ holds ends c
    → IsAsked ends text 0 held 1
asked_ascii ends text c held e some low told = record {
  character = c;
  stands = drop_more text 0 0 some ∙ (ap (λ (k : ℕ). k ∷ drop 1 text) (sym e)
      ∙ ap (λ (bs : List ℕ). bs ++ drop 1 text) (sym (encode_ascii c low)));
  order = omega arith;
  within = omega (arith, some);
  told = told;
}

-- A character of the rest of a text is one of the text.
pub asked_on : (ends text part : List ℕ) (start : ℕ) (held : Bool) (len : ℕ) → part ≡ drop start text → IsAsked ends part 0 held len
    → IsAsked ends text start held (start + len)
asked_on ends text part start held len is a =
    let size : length part ≡ length text - start = ap (λ (xs : List ℕ). length xs) is ∙ length-drop start text in
    let rest : drop len part ≡ drop (start + len) text =
    ap (λ (xs : List ℕ). drop len xs) is ∙ drop-drop len start text ∙ ap (λ (n : ℕ). drop n text) (omega arith) in
    record {
      character = a.character;
      stands = sym is ∙ a.stands ∙ ap (λ (xs : List ℕ). encode_utf8 a.character ++ xs) rest;
      order = omega (arith, a.order);
      within = omega (arith, a.within, a.order, size);
      told = a.told;
    }

-- A text of exactly one character.
use Rattle.std.proofs.Common.{◌≡◌, ◌∙◌, ap, ℕ, List, [], ◌∷◌, ◌++◌, length, encode_utf8, Some}
use Rattle.std.specs.Str.{IsUtf8, chars}
use Rattle.std.proofs.lemmas.List.{nil_from_length}
use Rattle.std.proofs.lemmas.Str.{chars-nil, chars_past_char}
use Rattle.icu_text_sets.specs.TextSet.{only_char, only_of}

pub only_char-of_one : (text rest : List ℕ) (c : ℕ) → IsUtf8 text → text ≡ encode_utf8 c ++ rest → length rest ≡ 0 → only_char text ≡ Some c
only_char-of_one text rest c u step none =
    let behind : chars rest ≡ [] = ap chars (nil_from_length rest none) ∙ chars-nil in
    ap only_of (chars_past_char text rest c u step ∙ ap (λ (cs : List ℕ). c ∷ cs) behind)

-- The walk that keeps the characters of a text that pass a test.
use Rattle.std.proofs.Common.{◌≡◌, ◌∙◌, sym, ap, refl, ℕ, List, [], ◌∷◌, ◌++◌, append_assoc, length, Bool, true, false, if◌then◌else◌, encode_utf8}
use Rattle.std.specs.List.{filter}
use Rattle.std.specs.Str.{chars, encode_utf8_all, IsUtf8}
use Rattle.std.proofs.lemmas.List.{nil_from_length, append-nil}
use Rattle.std.proofs.lemmas.Str.{chars_past_char, IsUtf8-past_char, chars_from_encodes, IsUtf8-nil}

-- The bytes of the characters that pass.
abbrev pub kept_of : (ℕ → Bool) → List ℕ → List ℕ
kept_of p text = encode_utf8_all (filter p (chars text))

-- What was kept so far, followed by what of the rest will be, is what is to be kept.
pub record Keeping (p : ℕ → Bool) (text rest kept : List ℕ) : Type 0 where
  pub utf8 : IsUtf8 rest
  pub so_far : kept_of p text ≡ kept ++ kept_of p rest

pub keep_start : (p : ℕ → Bool) (text rest kept : List ℕ) → IsUtf8 text → rest ≡ text → kept ≡ [] → Keeping p text rest kept
keep_start p text rest kept u e k = rw (e, k) (record { utf8 = u; so_far = refl })

-- The bytes of one more character.
pass : (p : ℕ → Bool) (c : ℕ) (cs : List ℕ) (b : Bool) → b ≡ p c
    → encode_utf8_all (filter p (c ∷ cs)) ≡ (if b then encode_utf8 c else []) ++ encode_utf8_all (filter p cs)
pass p c cs true e = rw (sym e) refl
pass p c cs false e = rw (sym e) refl

pub keep_past : (p : ℕ → Bool) (text rest more kept new : List ℕ) (c : ℕ) (b : Bool) → Keeping p text rest kept
    → rest ≡ encode_utf8 c ++ more → b ≡ p c → new ≡ kept ++ (if b then encode_utf8 c else []) → Keeping p text more new
keep_past p text rest more kept new c b k step held e =
    let characters : chars rest ≡ c ∷ chars more = chars_past_char rest more c k.utf8 step in
    let passed : kept_of p rest ≡ (if b then encode_utf8 c else []) ++ kept_of p more =
    ap (λ (cs : List ℕ). encode_utf8_all (filter p cs)) characters ∙ pass p c (chars more) b held in
    record {
      utf8 = IsUtf8-past_char rest more c k.utf8 step;
      so_far = k.so_far ∙ (ap (λ (bs : List ℕ). kept ++ bs) passed
          ∙ (sym (append_assoc kept (if b then encode_utf8 c else []) (kept_of p more))
          ∙ ap (λ (bs : List ℕ). bs ++ kept_of p more) (sym e)));
    }

pub keep_end : (p : ℕ → Bool) (text rest kept : List ℕ) → Keeping p text rest kept → length rest ≡ 0 → kept ≡ kept_of p text
keep_end p text rest kept k e =
    let nothing : rest ≡ [] = nil_from_length rest e in
    let none : [] ≡ chars [] = chars_from_encodes [] [] IsUtf8-nil refl in
    let left : kept_of p rest ≡ [] = ap (kept_of p) nothing ∙ ap (λ (cs : List ℕ). encode_utf8_all (filter p cs)) (sym none) in
    sym (k.so_far ∙ (ap (λ (bs : List ℕ). kept ++ bs) left ∙ append-nil kept))

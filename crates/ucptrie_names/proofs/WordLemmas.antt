-- The words of a name, byte by byte.
use Rattle.std.proofs.Common.{◌≡◌, ◌<◌, ◌^◌, ◌∙◌, ap, ℕ, Bool, true, false, not, nat_lt, List, [], ◌∷◌, ◌++◌, append_assoc, append-nil, decimal, length, length-append, refl, sym, arith}
use Rattle.std.specs.Prelude.{filter, if◌then◌else◌}
use Rattle.std.specs.Char.{is_ascii_alphanumeric, is_ascii_digit, to_ascii_uppercase}
use Rattle.std.specs.List.{onto_first, slice_split}
use Rattle.std.specs.Int.{IsInRange}
use Rattle.std.specs.Str.Parse.{AllDigits}
use Rattle.std.proofs.lemmas.Bool.Decides.{nat_tests}
use Rattle.std.proofs.lemmas.Fmt.{decimal_is_IsNumeral}
use Rattle.std.proofs.lemmas.List.Splits.{length-slice_split}
use Rattle.std.proofs.lemmas.Str.Parse.{digit_from_value}
use Rattle.ucptrie_names.specs.ValueIdentifiers.{before_word, last_byte, with_number, with_word, with_words, words}

-- the parts of a name between bytes that are no letters or digits
parts_of : List ℕ → List (List ℕ)
parts_of name = slice_split (λ b. not (is_ascii_alphanumeric b)) name

-- a text with the words of these parts behind it: from the start of a part, or within the first one
with_parts : Bool → List ℕ → List (List ℕ) → List ℕ
with_parts true text parts = with_words text (filter (λ word. nat_lt 0 (length word)) parts)
with_parts false text [] = text
with_parts false text (part ∷ parts) = with_words (text ++ part) (filter (λ word. nat_lt 0 (length word)) parts)

-- a text with the words of what is left of a name
pub with_rest : Bool → List ℕ → List ℕ → List ℕ
with_rest is_first text rest = with_parts is_first text (parts_of rest)

pub with_rest-all : (text name : List ℕ) → with_rest true text name ≡ with_words text (words name)
unfolding with_rest with_parts parts_of
with_rest-all text name = refl

-- nothing is left
pub with_rest-none : (is_first : Bool) (text rest : List ℕ) → rest ≡ [] → with_rest is_first text rest ≡ text
unfolding with_rest with_parts parts_of
with_rest-none true text rest none = rw none refl
with_rest-none false text rest none = rw none (append-nil text)

-- a byte between words
pub with_rest-between : (is_first : Bool) (text rest more : List ℕ) (b : ℕ) → rest ≡ b ∷ more → is_ascii_alphanumeric b ≡ false
    → with_rest true text more ≡ with_rest is_first text rest
unfolding with_rest with_parts parts_of
with_rest-between true text rest more b is other = rw (is, other) refl
with_rest-between false text rest more b is other = rw (is, other, append-nil) refl

first_longer : (text : List ℕ) (b : ℕ) (part : List ℕ) (parts : List (List ℕ))
    → with_parts true text ((b ∷ part) ∷ parts) ≡ with_parts false (with_word text (b ∷ [])) (part ∷ parts)
unfolding with_parts
first_longer text b part parts =
    let some : nat_lt 0 (length (b ∷ part)) ≡ true = grind (arith, nat_tests) in
    let piece = before_word (last_byte text) b in
    let same : with_word text (b ∷ part) ≡ with_word text (b ∷ []) ++ part =
    ap (λ t. text ++ t) (sym (append_assoc piece (to_ascii_uppercase b ∷ []) part))
    ∙ sym (append_assoc text (piece ++ to_ascii_uppercase b ∷ []) part) in
    rw some (ap (λ t. with_words t (filter (λ word. nat_lt 0 (length word)) parts)) same)

letter_in : (is_first : Bool) (text : List ℕ) (b : ℕ) (parts : List (List ℕ)) → 0 < length parts
    → with_parts false (if is_first then with_word text (b ∷ []) else text ++ b ∷ []) parts
    ≡ with_parts is_first text (onto_first b parts)
unfolding with_parts
letter_in is_first text b [] some = absurd (omega (arith, some))
letter_in true text b (part ∷ parts) some = sym (first_longer text b part parts)
letter_in false text b (part ∷ parts) some =
    ap (λ t. with_words t (filter (λ word. nat_lt 0 (length word)) parts)) (append_assoc text (b ∷ []) part)

-- a letter or digit
pub with_rest-letter : (is_first : Bool) (text new rest more : List ℕ) (b : ℕ) → rest ≡ b ∷ more → is_ascii_alphanumeric b ≡ true
    → new ≡ (if is_first then with_word text (b ∷ []) else text ++ b ∷ [])
    → with_rest false new more ≡ with_rest is_first text rest
unfolding with_rest parts_of
with_rest-letter is_first text new rest more b is letter pushed =
    let some = length-slice_split (λ c. not (is_ascii_alphanumeric c)) more in
    rw (is, letter, pushed) (letter_in is_first text b (slice_split (λ c. not (is_ascii_alphanumeric c)) more) (omega (arith, some)))

-- ---- A number as a word

digits_behind : (ds text : List ℕ) → 0 < length ds → AllDigits 10 ds
    → with_word text ds ≡ text ++ (before_word (last_byte text) 48 ++ ds)
digits_behind [] text some digits = absurd (omega (arith, some))
digits_behind (b ∷ ds) text some digits =
    let within : IsInRange 48 57 b = digit_from_value b digits.0 in
    let digit : is_ascii_digit b ≡ true = grind (arith, nat_tests, within) in
    let capital : to_ascii_uppercase b ≡ b = grind (arith, nat_tests, within) in
    rw (digit, capital) refl

-- an identifier with a number behind it
pub with_number-is : (n : ℕ) (text : List ℕ) → n < 2 ^ 64
    → with_number n text ≡ text ++ (before_word (last_byte text) 48 ++ decimal n)
with_number-is n text small =
    let is = decimal_is_IsNumeral n (omega (arith, small)) in
    digits_behind (decimal n) text is.0.0 is.0.1

-- a number makes an identifier longer
pub with_number_longer : (n : ℕ) (text : List ℕ) → n < 2 ^ 64 → length text < length (with_number n text)
with_number_longer n text small =
    let some = (decimal_is_IsNumeral n (omega (arith, small))).0.0 in
    rw (with_number-is n text small) (omega (arith, some, length-append {A = ℕ}))

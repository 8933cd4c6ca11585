-- A pattern with a name and numbers, piece by piece.
use Rattle.std.proofs.Common.{◌≡◌, ◌≢◌, ℕ, suc, ◌<◌, ◌==◌, false, List, [], ◌∷◌, ◌++◌, length, get_or, append_assoc, Result, Ok, Err, refl, sym, ap, ◌∙◌, arith}
use Rattle.std.specs.Prelude.{OnOk, ◌-◌, ◌^◌, drop, is_ok, if◌then◌else◌}
use Rattle.std.specs.Fmt.{digits, padded_integral, format_spec, char_count}
use Rattle.std.proofs.lemmas.List.{append-nil}
use Rattle.std.proofs.Math.Nat.{zero-sub}
use Rattle.std.proofs.lemmas.Bool.Decides.{nat_tests}
use Rattle.ucptab_table.specs.Patterns.{filled, first_text, named}
use Rattle.ucptab_table.specs.declared.pattern.Number.{Number}

-- a piece without `@` stays as it is
pub named-without : (name piece : List ℕ) → ((i : ℕ) → i < length piece → get_or piece i 0 ≢ 64) → named name piece ≡ piece
named-without name [] each = refl
named-without name (b ∷ piece) each =
    let other : (b == 64) ≡ false = let first = each 0 (omega arith) in grind (arith, nat_tests, first) in
    rw other (ap (λ t. b ∷ t) (named-without name piece (λ i below. each (suc i) (omega (arith, below)))))

-- the name is between such a piece and the others
pub named-at : (name piece others : List ℕ) → ((i : ℕ) → i < length piece → get_or piece i 0 ≢ 64)
    → named name (piece ++ (64 ∷ others)) ≡ piece ++ (name ++ named name others)
named-at name [] others each = refl
named-at name (b ∷ piece) others each =
    let other : (b == 64) ≡ false = let first = each 0 (omega arith) in grind (arith, nat_tests, first) in
    rw other (ap (λ t. b ∷ t) (named-at name piece others (λ i below. each (suc i) (omega (arith, below)))))

-- a piece and the name are appended
pub named-more : (name whole text first second rest piece others : List ℕ) → first ≡ text ++ piece → second ≡ first ++ name
    → rest ≡ piece ++ (64 ∷ others) → ((i : ℕ) → i < length piece → get_or piece i 0 ≢ 64) → text ++ named name rest ≡ whole
    → second ++ named name others ≡ whole
named-more name whole text first second rest piece others one two is each held =
    let split : named name rest ≡ piece ++ (name ++ named name others) = ap (named name) is ∙ named-at name piece others each in
    rw (two, one, append_assoc, append_assoc, sym split) held

-- the last piece is appended, if there is memory
pub named-last : {T E : Type 0} (r : Result T E) (name whole text new rest : List ℕ) → new ≡ (if is_ok r then text ++ rest else text)
    → ((i : ℕ) → i < length rest → get_or rest i 0 ≢ 64) → text ++ named name rest ≡ whole → OnOk r (new ≡ whole)
named-last (Ok done) name whole text new rest is each held =
    is ∙ (ap (λ t. text ++ t) (sym (named-without name rest each)) ∙ held)
named-last (Err fault) name whole text new rest is each held = tt

-- no number replaces anything in a piece without `%`
pub filled-without : (name : List ℕ) (numbers : List Number) (piece : List ℕ) → ((i : ℕ) → i < length piece → get_or piece i 0 ≢ 37)
    → filled name numbers piece ≡ named name piece
filled-without name numbers [] each = refl
filled-without name numbers (b ∷ piece) each =
    let other : (b == 37) ≡ false = let first = each 0 (omega arith) in grind (arith, nat_tests, first) in
    rw other (ap (λ t. (if b == 64 then name else b ∷ []) ++ t)
    (filled-without name numbers piece (λ i below. each (suc i) (omega (arith, below)))))

-- the next number is between such a piece and the others
pub filled-at : (name : List ℕ) (numbers : List Number) (piece others : List ℕ)
    → ((i : ℕ) → i < length piece → get_or piece i 0 ≢ 37)
    → filled name numbers (piece ++ (37 ∷ others)) ≡ named name piece ++ (first_text numbers ++ filled name (drop 1 numbers) others)
filled-at name numbers [] others each = refl
filled-at name numbers (b ∷ piece) others each =
    let other : (b == 37) ≡ false = let first = each 0 (omega arith) in grind (arith, nat_tests, first) in
    rw other (ap (λ t. (if b == 64 then name else b ∷ []) ++ t)
    (filled-at name numbers piece others (λ i below. each (suc i) (omega (arith, below))))
    ∙ sym (append_assoc (if b == 64 then name else b ∷ []) (named name piece) (first_text numbers ++ filled name (drop 1 numbers) others)))

-- a piece and the next number are appended
pub filled-more : (name : List ℕ) (numbers : List Number) (whole text first second rest piece others : List ℕ)
    → first ≡ text ++ named name piece → second ≡ first ++ first_text numbers → rest ≡ piece ++ (37 ∷ others)
    → ((i : ℕ) → i < length piece → get_or piece i 0 ≢ 37) → text ++ filled name numbers rest ≡ whole
    → second ++ filled name (drop 1 numbers) others ≡ whole
filled-more name numbers whole text first second rest piece others one two is each held =
    let split : filled name numbers rest ≡ named name piece ++ (first_text numbers ++ filled name (drop 1 numbers) others) =
    ap (filled name numbers) is ∙ filled-at name numbers piece others each in
    rw (two, one, append_assoc, append_assoc, sym split) held

-- the last piece is appended, if there is memory
pub filled-last : {T E : Type 0} (r : Result T E) (name : List ℕ) (numbers : List Number) (whole text new rest : List ℕ)
    → OnOk r (new ≡ text ++ named name rest) → ((i : ℕ) → i < length rest → get_or rest i 0 ≢ 37)
    → text ++ filled name numbers rest ≡ whole → OnOk r (new ≡ whole)
filled-last (Ok done) name numbers whole text new rest is each held =
    is ∙ (ap (λ t. text ++ t) (sym (filled-without name numbers rest each)) ∙ held)
filled-last (Err fault) name numbers whole text new rest is each held = tt

-- `{:x}`
pub hexadecimal_written : (n : ℕ) → padded_integral (format_spec 32 0 0 0 (2 ^ 64 - 1)) false [] (digits 16 false n) ≡ digits 16 false n
unfolding padded_integral char_count
hexadecimal_written n = simp (zero-sub, append-nil)

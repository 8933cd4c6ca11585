-- What a number is printed as.
use Rattle.std.proofs.Common.{◌≡◌, ℕ, ◌-◌, ◌^◌, ◌<◌, ◌≤◌, false, true, List, [], ◌∷◌, ◌++◌, append_assoc, nat_lt, refl, ◌∙◌, ap, arith}
use Rattle.std.proofs.lemmas.Bool.Decides.{nat_tests}
use Rattle.std.proofs.lemmas.List.{append-nil}
use Rattle.std.proofs.Math.Nat.{sub-zero}
use Rattle.std.specs.Fmt.{digits, padded_integral, format_spec, char_count}
use Rattle.std.proofs.KnownBytes.{Appends-trans}
use Rattle.std.proofs.lemmas.Fmt.{decimal_digit, decimal_step}
use Rattle.icu_trie_core.specs.Runs.{Run}
use Rattle.ucptab_table.specs.Messages.{byte_text}
use Rattle.ucptab_table.specs.TableText.{answer_line, hex_text, run_line}

-- `{:04X}`
pub hex_written : (n : ℕ) → padded_integral (format_spec 32 0 4 4 (2 ^ 64 - 1)) false [] (digits 16 true n) ≡ hex_text n
unfolding padded_integral hex_text char_count
hex_written n = simp (sub-zero, append-nil)

-- `{:02x}`
pub byte_written : (n : ℕ) → padded_integral (format_spec 32 0 4 2 (2 ^ 64 - 1)) false [] (digits 16 false n) ≡ byte_text n
unfolding padded_integral byte_text char_count
byte_written n = simp (sub-zero, append-nil)

-- the line of a run after a text, in its two parts and in one
pub run_line-range : (text : List ℕ) (r : Run ℕ) → r.first < r.last
    → (text ++ (hex_text r.first ++ (46 ∷ (46 ∷ [])))) ++ answer_line r.last r.value ≡ text ++ run_line r
unfolding run_line
run_line-range text r some =
    let test : nat_lt r.first r.last ≡ true = grind (arith, nat_tests) in
    rw test (append_assoc text (hex_text r.first ++ (46 ∷ (46 ∷ []))) (answer_line r.last r.value)
    ∙ ap (λ line. text ++ line) (append_assoc (hex_text r.first) (46 ∷ (46 ∷ [])) (answer_line r.last r.value)))

pub run_line-point : (text : List ℕ) (r : Run ℕ) → r.last ≤ r.first → text ++ answer_line r.last r.value ≡ text ++ run_line r
unfolding run_line
run_line-point text r one =
    let test : nat_lt r.first r.last ≡ false = grind (arith, nat_tests) in
    rw test refl

-- one write after another, and the digits of a number
pub ruleset printing = (Appends-trans, decimal_digit, decimal_step)

use Rattle.std.proofs.Common.{◌≡◌, ℕ, ◌+◌, ◌-◌, get_or, arith, sym, ◌∙◌, inl, inr}
use Rattle.std.proofs.lemmas.Bool.{true≢false}
use Rattle.icu_utf.proofs.Utf8Absent.{no_fourth, no_third_of_four, too_few_for_four}
use Rattle.icu_utf.proofs.Utf8Parts.{bad_second_of_four, four_found, made_character, no_second_of_four}
use Rattle.icu_utf.proofs.first_utf8.of_four.Goals as goal

pub returns-then-bytes-lt4 : goal.returns-then-bytes-lt4
returns-then-bytes-lt4 c = too_few_for_four c.args.bytes.now c.requires.from c.if-bytes-lt4.true

pub returns-in_err-second : goal.returns-in_err-second
returns-in_err-second c =
    let bytes = c.args.bytes.now in
    let first : ℕ = get_or bytes 0 0 - 240 in
    let lead : get_or bytes 0 0 ≡ 240 + first = omega (arith, c.requires.from) in
    rw c.from_residual.ensures (elim c.in_err-second.ensures [
      | inl (inl bad) ↦ (no_second_of_four bytes c.requires.from c.requires.some bad).no_character
      | inl (inr second) ↦ no_third_of_four bytes first second.0 lead second.1 second.2
      | inr trails ↦ no_fourth bytes first trails.0 lead trails.2 trails.1 trails.3 trails.4
    ])

pub returns-then-not-is_high_of_four : goal.returns-then-not-is_high_of_four
returns-then-not-is_high_of_four c =
    let first : ℕ = c.from.result - 240 in
    let lead : get_or c.args.bytes.now 0 0 ≡ 240 + first = omega (arith, c.from.ensures, c.requires.from) in
    (bad_second_of_four c.args.bytes.now first c.in_ok-second.second lead c.in_ok-second.ensures.0
    (λ h. true≢false (sym (c.is_high_of_four.ensures.1 h) ∙ c.if-not-is_high_of_four.true))).no_character

pub returns : goal.returns
returns c =
    let bytes = c.args.bytes.now in
    let first : ℕ = c.from.result - 240 in
    let lead : get_or bytes 0 0 ≡ 240 + first = omega (arith, c.from.ensures, c.requires.from) in
    let high = c.is_high_of_four.ensures.0 c.if-not-is_high_of_four.false in
    let trails = c.in_ok-second.ensures in
    made_character bytes c.from_u32.result _ 4 c.from_u32.ensures.value
    (four_found bytes first c.in_ok-second.second c.in_ok-second.third c.in_ok-second.fourth lead trails.0 high trails.1 trails.2)

use Rattle.std.proofs.Common.{◌≡◌, ◌∙◌, ℕ, ◌+◌, ◌-◌, get_or, arith, sym, inl, inr}
use Rattle.std.proofs.lemmas.Bool.{true≢false}
use Rattle.icu_utf.proofs.Utf8Absent.{no_third, too_few_for_three}
use Rattle.icu_utf.proofs.Utf8Parts.{bad_second_of_three, no_second_of_three, three_found}
use Rattle.icu_utf.proofs.first_utf8.place_of_three.Goals as goal

pub returns-then-bytes-lt3 : goal.returns-then-bytes-lt3
returns-then-bytes-lt3 c = too_few_for_three c.args.bytes.now c.requires.from c.if-bytes-lt3.true

pub returns-in_err-second : goal.returns-in_err-second
returns-in_err-second c =
    let bytes = c.args.bytes.now in
    let first : ℕ = get_or bytes 0 0 - 224 in
    let lead : get_or bytes 0 0 ≡ 224 + first = omega (arith, c.requires.from) in
    rw c.from_residual.ensures (elim c.in_err-second.ensures [
      | inl bad ↦ (no_second_of_three bytes c.requires.from c.requires.to c.requires.some bad).no_character
      | inr second ↦ no_third bytes first second.0 lead (omega (arith, lead, c.requires.to)) second.1 second.2
    ])

pub returns-then-not-is_high_after : goal.returns-then-not-is_high_after
returns-then-not-is_high_after c =
    let first : ℕ = c.from-first.result - 224 in
    let lead : get_or c.args.bytes.now 0 0 ≡ 224 + first = omega (arith, c.from-first.ensures, c.requires.from) in
    (bad_second_of_three c.args.bytes.now first c.in_ok-second.second lead (omega (arith, lead, c.requires.to))
    c.in_ok-second.ensures.0
    (λ h. true≢false (sym (c.is_high_after.ensures.1 h) ∙ c.if-not-is_high_after.true))).no_character

pub returns : goal.returns
returns c =
    let first : ℕ = c.from-first.result - 224 in
    let lead : get_or c.args.bytes.now 0 0 ≡ 224 + first = omega (arith, c.from-first.ensures, c.requires.from) in
    let high = c.is_high_after.ensures.0 c.if-not-is_high_after.false in
    let trails = c.in_ok-second.ensures in (
      trails.1.six,
      three_found c.args.bytes.now first c.in_ok-second.second c.in_ok-second.third lead (omega (arith, lead, c.requires.to))
          trails.0 high trails.1,
    )

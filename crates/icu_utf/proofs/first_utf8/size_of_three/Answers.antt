use Rattle.std.proofs.Common.{◌≡◌, ◌∙◌, ℕ, ◌+◌, ◌-◌, get_or, arith, sym}
use Rattle.std.proofs.lemmas.Bool.{true≢false}
use Rattle.icu_utf.proofs.Utf8Absent.{no_three}
use Rattle.icu_utf.proofs.Utf8Parts.{bad_second_of_three, no_second_of_three}
use Rattle.icu_utf.proofs.first_utf8.size_of_three.Goals as goal

pub returns-in_default : goal.returns-in_default
returns-in_default c = no_second_of_three c.args.bytes.now c.requires.from c.requires.to c.requires.some c.in_default.ensures

pub returns-then-not-is_high_of_three : goal.returns-then-not-is_high_of_three
returns-then-not-is_high_of_three c =
    let first : ℕ = c.from-first.result - 224 in
    let lead : get_or c.args.bytes.now 0 0 ≡ 224 + first = omega (arith, c.from-first.ensures, c.requires.from) in
    bad_second_of_three c.args.bytes.now first c.in-Some.second lead (omega (arith, lead, c.requires.to)) c.in-Some.ensures
    (λ h. true≢false (sym (c.is_high_of_three.ensures.1 h) ∙ c.if-not-is_high_of_three.true))

pub returns : goal.returns
returns c =
    let first : ℕ = c.from-first.result - 224 in
    let lead : get_or c.args.bytes.now 0 0 ≡ 224 + first = omega (arith, c.from-first.ensures, c.requires.from) in
    no_three c.args.bytes.now first c.in-Some.second lead (omega (arith, lead, c.requires.to)) c.in-Some.ensures c.requires.none
    (c.is_high_of_three.ensures.0 c.if-not-is_high_of_three.false)

use Rattle.std.proofs.Common.{◌≡◌, ◌∙◌, ℕ, ◌+◌, ◌-◌, get_or, arith, sym}
use Rattle.std.proofs.lemmas.Bool.{true≢false}
use Rattle.icu_utf.proofs.Utf8Absent.{no_four}
use Rattle.icu_utf.proofs.Utf8Parts.{bad_second_of_four, no_second_of_four, not_third_of_four}
use Rattle.icu_utf.proofs.first_utf8.size_of_four.Goals as goal

pub returns-in_default : goal.returns-in_default
returns-in_default c = no_second_of_four c.args.bytes.now c.requires.from c.requires.some c.in_default.ensures

pub returns-then-not-is_high_of_four : goal.returns-then-not-is_high_of_four
returns-then-not-is_high_of_four c =
    let first : ℕ = c.from-first.result - 240 in
    let lead : get_or c.args.bytes.now 0 0 ≡ 240 + first = omega (arith, c.from-first.ensures, c.requires.from) in
    bad_second_of_four c.args.bytes.now first c.in-Some.second lead c.in-Some.ensures
    (λ h. true≢false (sym (c.is_high_of_four.ensures.1 h) ∙ c.if-not-is_high_of_four.true))

pub returns-in_default-trail_bits : goal.returns-in_default-trail_bits
returns-in_default-trail_bits c =
    let first : ℕ = c.from-first.result - 240 in
    let lead : get_or c.args.bytes.now 0 0 ≡ 240 + first = omega (arith, c.from-first.ensures, c.requires.from) in
    not_third_of_four c.args.bytes.now first c.in-Some.second lead c.in-Some.ensures
    (c.is_high_of_four.ensures.0 c.if-not-is_high_of_four.false) c.in_default-trail_bits.ensures

pub returns : goal.returns
returns c =
    let first : ℕ = c.from-first.result - 240 in
    let lead : get_or c.args.bytes.now 0 0 ≡ 240 + first = omega (arith, c.from-first.ensures, c.requires.from) in
    no_four c.args.bytes.now first c.in-Some.second lead c.in-Some.ensures c.in-Some-trail_bits.field-0 c.requires.none
    (c.is_high_of_four.ensures.0 c.if-not-is_high_of_four.false) c.in-Some-trail_bits.ensures

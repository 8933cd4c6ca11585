use Rattle.std.proofs.Common.{◌≡◌, ◌∙◌, ◌∷◌, [], ℕ, ap, sym}
use Rattle.std.proofs.lemmas.List.{nil_from_length}
use Rattle.icu_utf.specs.Utf16.{code_points_of}
use Rattle.icu_utf.proofs.Utf16Lemmas.{code_points-nil, code_points_alone, code_points_before, code_points_last, code_points_pair}
use Rattle.icu_utf.proofs.first_utf16.first_code_point.Goals as goal

pub returns-in_err-first : goal.returns-in_err-first
returns-in_err-first c =
    let none : c.args.units.now ≡ [] = nil_from_length c.args.units.now c.in_err-first.ensures.cases in
    rw c.from_residual.ensures (none, ap code_points_of none ∙ code_points-nil)

pub returns-then-not-is_high_surrogate : goal.returns-then-not-is_high_surrogate
returns-then-not-is_high_surrogate c =
    let units : c.args.units.now ≡ c.from-unit.result ∷ c.in_ok-first.rest.now =
    c.in_ok-first.ensures.cases.0 ∙ ap (λ (u : ℕ). u ∷ c.in_ok-first.rest.now) (sym c.from-unit.ensures) in
    rw units (code_points_alone c.from-unit.result c.in_ok-first.rest.now
    (sym c.is_high_surrogate.ensures ∙ c.if-not-is_high_surrogate.true))

pub returns-in_default : goal.returns-in_default
returns-in_default c =
    let none : c.in_ok-first.rest.now ≡ [] = nil_from_length c.in_ok-first.rest.now c.in_default.ensures.cases in
    let units : c.args.units.now ≡ c.from-unit.result ∷ c.in_ok-first.rest.now =
    c.in_ok-first.ensures.cases.0 ∙ ap (λ (u : ℕ). u ∷ c.in_ok-first.rest.now) (sym c.from-unit.ensures) in
    rw (units, none) (code_points_last c.from-unit.result)

pub returns-then-not-is_low_surrogate : goal.returns-then-not-is_low_surrogate
returns-then-not-is_low_surrogate c =
    let rest : c.in_ok-first.rest.now ≡ c.from-low.result ∷ c.in-Some.after.now =
    c.in-Some.ensures.cases.0 ∙ ap (λ (u : ℕ). u ∷ c.in-Some.after.now) (sym c.from-low.ensures) in
    let units : c.args.units.now ≡ c.from-unit.result ∷ c.in_ok-first.rest.now =
    c.in_ok-first.ensures.cases.0 ∙ ap (λ (u : ℕ). u ∷ c.in_ok-first.rest.now) (sym c.from-unit.ensures) in
    rw (units, rest) (code_points_before c.from-unit.result c.from-low.result c.in-Some.after.now
    (sym c.is_high_surrogate.ensures ∙ c.if-not-is_high_surrogate.false) (sym c.is_low_surrogate.ensures ∙ c.if-not-is_low_surrogate.true))

pub returns : goal.returns
returns c =
    let rest : c.in_ok-first.rest.now ≡ c.from-low.result ∷ c.in-Some.after.now =
    c.in-Some.ensures.cases.0 ∙ ap (λ (u : ℕ). u ∷ c.in-Some.after.now) (sym c.from-low.ensures) in
    let units : c.args.units.now ≡ c.from-unit.result ∷ c.in_ok-first.rest.now =
    c.in_ok-first.ensures.cases.0 ∙ ap (λ (u : ℕ). u ∷ c.in_ok-first.rest.now) (sym c.from-unit.ensures) in
    rw (units, rest) (code_points_pair c.from-unit.result c.from-low.result c.in-Some.after.now
    (sym c.is_high_surrogate.ensures ∙ c.if-not-is_high_surrogate.false) (sym c.is_low_surrogate.ensures ∙ c.if-not-is_low_surrogate.false))

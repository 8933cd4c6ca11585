use Rattle.std.proofs.Common.{◌≢◌, arith, inl, inr, refl}
use Rattle.std.proofs.lemmas.Bool.{cases_lt}
use Rattle.icu_utf.specs.Trails.{IsHighOfThree}
use Rattle.icu_utf.proofs.first_utf8.is_high_after.Goals as goal

pub returns-then-first-eq0 : goal.returns-then-first-eq0
returns-then-first-eq0 c =
    let h = c.if-first-eq0.true in
    let not_first : c.args.first ≢ 0 = λ e. (let k = rw e at h in omega (arith, k)) in
    let not_surrogate : c.args.first ≢ 13 = λ e. (let k = rw e at h in omega (arith, k)) in
    let high : IsHighOfThree c.args.high = (
      omega (arith, c.requires.high, not_first),
      elim (cases_lt c.args.high 864) [
        | inl below ↦ inl below
        | inr from ↦ inr (omega (arith, c.requires.high, not_surrogate, from))
      ],
    ) in
    (λ t. high, λ t. refl)

use Rattle.std.proofs.Common.{◌≡◌, ◌∙◌, ◌≢◌, ℕ, ◌+◌, ◌-◌, ◌*◌, ◌/◌, ◌^◌, bit_and, arith, eqb-true, refl, sym, inl, inr}
use Rattle.std.specs.Int.{bit_at}
use Rattle.std.proofs.lemmas.Bool.{cases_lt}
use Rattle.std.proofs.lemmas.Nat.Bits.{bit_at-pow_other, bit_at_cat_high, bit_at_cat_low, shr_and_one}
use Rattle.icu_utf.proofs.first_utf8.is_high_of_three.Goals as goal

-- All bits but the two are 0.
others : (k : ℕ) → k ≢ 0 → k ≢ 27 → bit_at (1 * 2 ^ 27 + 1) k ≡ 0
others k first surrogates = elim (cases_lt k 27) [
  | inl below ↦ bit_at_cat_low 1 27 1 k below ∙ bit_at-pow_other 0 k first
  | inr from ↦ bit_at_cat_high 1 27 1 k (omega arith) from
      ∙ bit_at-pow_other 0 (k - 27) (λ e. surrogates (omega (arith, e, from)))
]

pub returns : goal.returns
returns c =
    let five : ℕ = c.args.high / 32 in
    let bit : bit_and (134217729 / 2 ^ five) 1 ≡ bit_at 134217729 five = shr_and_one 134217729 five in (
      λ t.
          let none : bit_at 134217729 five ≡ 0 = sym bit ∙ eqb-true _ 0 t in
          let not_first : five ≢ 0 = λ e. (let h = rw e at none in omega (arith, h)) in
          let not_surrogates : five ≢ 27 = λ e. (let h = rw e at none in omega (arith, h)) in (
            omega (arith, not_first),
            elim (cases_lt c.args.high 864) [
              | inl below ↦ inl below
              | inr from ↦ inr (omega (arith, c.requires, not_surrogates, from))
            ],
          ),
      λ h.
          let first : five ≢ 0 = λ e. (let l = h.0 in omega (arith, l, e)) in
          let surrogates : five ≢ 27 = λ e. elim h.1 [
            | inl below ↦ omega (arith, below, e)
            | inr from ↦ omega (arith, from, e)
          ] in
          rw (bit ∙ others five first surrogates) refl,
    )

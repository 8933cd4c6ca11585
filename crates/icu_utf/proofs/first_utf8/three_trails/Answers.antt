use Rattle.std.proofs.Common.{ℕ, ◌<◌, bit_or, arith, inl, inr}
use Rattle.std.proofs.lemmas.Bool.{cases_lt}
use Rattle.std.proofs.lemmas.Nat.{le_or_l, le_or_r}
use lib.Bits.{or_lt}
use Rattle.icu_utf.proofs.Utf8Parts.{trail_at}
use Rattle.icu_utf.proofs.first_utf8.three_trails.Goals as goal

pub returns-then-second-third-ge64 : goal.returns-then-second-third-ge64
returns-then-second-third-ge64 c =
    let bytes = c.args.bytes.now in
    let s : ℕ = c.trail_of-second.result in
    let t : ℕ = c.trail_of-third.result in
    let u : ℕ = c.trail_of-fourth.result in
    elim (cases_lt s 64) [
      | inl small ↦ (let second = trail_at bytes 1 s (omega arith) (omega (arith, c.trail_of-second.ensures.byte small)) small in
          elim (cases_lt t 64) [
            | inl small_too ↦ inr (
              s,
              t,
              second,
              trail_at bytes 2 t (omega arith) (omega (arith, c.trail_of-third.ensures.byte small_too)) small_too,
              (λ there. c.trail_of-fourth.ensures.other (elim (cases_lt u 64) [
                | inl small_last ↦ omega (
                  arith,
                  or_lt 6 (bit_or s t) u (or_lt 6 s t small small_too) small_last,
                  c.if-second-third-ge64.true,
                )
                | inr large ↦ large
              ])),
            )
            | inr large ↦ inl (inr (s, second, (λ there. c.trail_of-third.ensures.other large)))
          ])
      | inr large ↦ inl (inl (λ there. c.trail_of-second.ensures.other large))
    ]

pub returns : goal.returns
returns c =
    let bytes = c.args.bytes.now in
    let s : ℕ = c.trail_of-second.result in
    let t : ℕ = c.trail_of-third.result in
    let u : ℕ = c.trail_of-fourth.result in
    let both = le_or_l (bit_or s t) u in
    let small : s < 64 = omega (arith, le_or_l s t, both, c.if-second-third-ge64.false) in
    let small_too : t < 64 = omega (arith, le_or_r s t, both, c.if-second-third-ge64.false) in
    let small_last : u < 64 = omega (arith, le_or_r (bit_or s t) u, c.if-second-third-ge64.false) in
    let second = trail_at bytes 1 s (omega arith) (omega (arith, c.trail_of-second.ensures.byte small)) small in
    let third = trail_at bytes 2 t (omega arith) (omega (arith, c.trail_of-third.ensures.byte small_too)) small_too in
    let fourth = trail_at bytes 3 u (omega arith) (omega (arith, c.trail_of-fourth.ensures.byte small_last)) small_last in
    (second, third, fourth)

use Rattle.std.proofs.Common.{◌+◌, ◌*◌, arith, w64}
use Rattle.std.proofs.lemmas.Nat.Bits.{bit_at-trailing_zeros}
use Rattle.icu_frozen_sets.proofs.ascii_blocks.first_high.Goals as goal

pub returns-clause-most : goal.returns-clause-most
returns-clause-most c =
    let t = bit_at-trailing_zeros w64 c.args.high c.requires c.ranges.high.fits in
    omega (arith, t.0)

pub returns-clause-before : goal.returns-clause-before
returns-clause-before c = λ k l.
    let t = bit_at-trailing_zeros w64 c.args.high c.requires c.ranges.high.fits in
    t.2 (8 * k + 7) (omega (arith, l))

use Rattle.std.proofs.Common.{refl, arith}
use Rattle.std.proofs.lemmas.Nat.{xor_lt}
use Rattle.icu_frozen_sets.proofs.ParityLemmas.{all_flipped, none_flipped, one_flipped}
use Rattle.icu_frozen_sets.proofs.bits.write_bits.Goals as goal

pub loop-k-init : goal.loop-k-init
loop-k-init c = none_flipped c.args.marks.now c.args.out.now c.requires

pub loop-k-preserved : goal.loop-k-preserved
loop-k-preserved c =
    let l = c.loop-k in
    one_flipped c.args.marks.now l.out l.flip l.k _ c.wrapping_neg-flip.result c.loop-k-test.true l.invariant refl
    (xor_lt 64 _ _ (c.fits-marks l.k) l.auto.flip-fits.fits) c.wrapping_neg-flip.type_inv c.wrapping_neg-flip.ensures

pub returns-clause-bits : goal.returns-clause-bits
returns-clause-bits c = all_flipped c.args.marks.now c.loop-k.out c.loop-k.flip c.loop-k.k (omega (arith, c.loop-k-test.false)) c.loop-k.invariant

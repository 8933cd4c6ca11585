use Rattle.icu_frozen_sets.proofs.ParityLemmas.{AreFlipped}
use Rattle.icu_frozen_sets.proofs.bits.write_bits.Given as goal

abbrev pub invariant-loop-k : goal.invariant-loop-k
invariant-loop-k l = AreFlipped l.marks l.out l.flip l.k

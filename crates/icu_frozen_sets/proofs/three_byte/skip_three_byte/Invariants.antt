use Rattle.std.proofs.Common.{length}
use Rattle.icu_frozen_sets.specs.FrozenWords.{is_held}
use Rattle.icu_frozen_sets.proofs.ThreeByteLemmas.{Walks}
use Rattle.icu_frozen_sets.proofs.three_byte.skip_three_byte.Given as goal

abbrev pub invariant-loop-rest : goal.invariant-loop-rest
invariant-loop-rest l = Walks (Unit {0}) (is_held l.table) l.held l.bytes l.start l.rest

abbrev pub decreases-loop-rest : goal.decreases-loop-rest
decreases-loop-rest l = length l.rest

use Rattle.icu_invlist.specs.InversionList.{ranges_of}
use Rattle.icu_frozen_sets.proofs.FreezeLemmas.{Marks}
use Rattle.icu_frozen_sets.proofs.ascii.ascii_of.Given as goal

abbrev pub invariant-loop-range : goal.invariant-loop-range
invariant-loop-range l = Marks l.set (ranges_of l.range-iterator) l.ascii

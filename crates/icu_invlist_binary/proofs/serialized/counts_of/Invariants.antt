use Rattle.icu_zerovec.specs.Slice.{slice_values}
use Rattle.icu_invlist_binary.proofs.UnitLemmas.{Counted}
use Rattle.icu_invlist_binary.proofs.serialized.counts_of.Given as goal

abbrev pub invariant-loop-i : goal.invariant-loop-i
invariant-loop-i l = Counted (slice_values l.ends) l.i l.units l.singles

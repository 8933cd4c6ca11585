use Rattle.icu_zerovec.specs.Slice.{slice_values}
use Rattle.icu_invlist_binary.proofs.PutLemmas.{PutUpTo}
use Rattle.icu_invlist_binary.proofs.target.put_ends.Given as goal

abbrev pub invariant-loop-i : goal.invariant-loop-i
invariant-loop-i l = PutUpTo l.fn.target (slice_values l.ends) l.at l.i l.next l.target

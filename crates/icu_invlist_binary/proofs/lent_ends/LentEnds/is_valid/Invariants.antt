use Rattle.icu_invlist_binary.specs.Inside.LentEnds.{ends_lent}
use Rattle.icu_invlist_binary.proofs.LentLemmas.{Walked}
use Rattle.icu_invlist_binary.proofs.lent_ends.LentEnds.is_valid.Given as goal

abbrev pub invariant-loop-i : goal.invariant-loop-i
invariant-loop-i l = Walked (ends_lent l.self) l.i l.next

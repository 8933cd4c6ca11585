use Rattle.icu_utf.proofs.CharacterLemmas.{PastTrails}
use Rattle.icu_utf.proofs.characters.last_lead.Given as goal

abbrev pub invariant-loop-start : goal.invariant-loop-start
invariant-loop-start l = PastTrails l.bytes l.start

abbrev pub decreases-loop-start : goal.decreases-loop-start
decreases-loop-start l = l.start

use Rattle.icu_collections_c.proofs.SetMakingLemmas.{AreJoined}
use Rattle.icu_collections_c.proofs.set_building.joined.Given as goal

abbrev pub invariant-loop-range : goal.invariant-loop-range
invariant-loop-range l = AreJoined (λ r. r) l.ranges l.range-index l.ends.items

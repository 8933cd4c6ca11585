use Rattle.icu_collections_c.proofs.SetMakingLemmas.{AreJoined, point_range}
use Rattle.icu_collections_c.proofs.set_building.ends_of_points.Given as goal

abbrev pub invariant-loop-point : goal.invariant-loop-point
invariant-loop-point l = AreJoined point_range l.point-items l.point-index l.ends.items

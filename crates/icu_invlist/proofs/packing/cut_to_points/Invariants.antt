use Rattle.std.proofs.Common.{◌≡◌, map, min, take}
use Rattle.icu_invlist.proofs.packing.cut_to_points.Given as goal

abbrev pub invariant-loop-end : goal.invariant-loop-end
invariant-loop-end l = l.points.items ≡ map (λ x. min x 0xFFFFFF) (take l.end-index l.ends)

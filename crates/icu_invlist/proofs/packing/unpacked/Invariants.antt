use Rattle.std.proofs.Common.{◌≡◌, ◌++◌}
use Rattle.icu_invlist.proofs.packing.unpacked.Given as goal

abbrev pub invariant-loop-end : goal.invariant-loop-end
invariant-loop-end l = l.points.items ++ l.end-iterator ≡ l.ends

use Rattle.std.proofs.Common.{◌≡◌, ◌+◌, drop}
use Rattle.std.specs.Prelude.{sum}
use Rattle.icu_collections_c.proofs.unit_building.has_units.Given as goal

abbrev pub invariant-loop-length : goal.invariant-loop-length
invariant-loop-length l = l.left + sum l.lengths ≡ l.count + sum (drop l.length-index l.lengths)

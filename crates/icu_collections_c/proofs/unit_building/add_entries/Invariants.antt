use Rattle.std.proofs.Common.{◌≤◌, length, drop}
use Rattle.std.specs.Prelude.{sum}
use Rattle.icu_collections_c.specs.UnitBuilding.{entries_of}
use Rattle.icu_collections_c.proofs.UnitBuildingLemmas.{Along}
use Rattle.icu_collections_c.proofs.unit_building.add_entries.Given as goal

abbrev pub invariant-loop-i : goal.invariant-loop-i
invariant-loop-i l = record {
  room : sum (drop l.i l.lengths) ≤ length l.rest;
  along : Along (entries_of l.keys l.lengths l.values) l.initial.builder (entries_of l.rest (drop l.i l.lengths) (drop l.i l.values))
      l.builder;
}

use Rattle.std.proofs.Common.{◌≤◌, length, take}
use Rattle.icu_collections_c.specs.UnitPrefixes.{HasFound}
use Rattle.icu_collections_c.specs.UnitTries.{units_of}
use Rattle.icu_collections_c.proofs.UnitPrefixLemmas.{HasLooked}
use Rattle.icu_collections_c.proofs.unit_prefixes.bks_units_prefixes.Given as goal

-- The cursor has passed the units so far, and the prefixes of these with a value are found.
abbrev pub invariant-loop-i : goal.invariant-loop-i
invariant-loop-i l = record {
  within : l.i ≤ length l.fn.text;
  looked : HasLooked (units_of l.fn.units) (λ k. take k l.fn.text) (λ k. k) l.i l.cursor (λ xs. HasFound xs l.fn.found l.found l.count);
}

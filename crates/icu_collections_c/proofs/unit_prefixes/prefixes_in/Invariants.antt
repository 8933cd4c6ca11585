use Rattle.std.proofs.Common.{◌-◌, length}
use Rattle.icu_collections_c.specs.UnitPrefixes.{HasFound}
use Rattle.icu_collections_c.specs.UnitTries.{units_of}
use Rattle.icu_collections_c.proofs.TextStepLemmas.{HasWalked}
use Rattle.icu_collections_c.proofs.unit_prefixes.prefixes_in.Given as goal

-- The cursor has passed the characters so far, and the prefixes of these with a value are found.
abbrev pub invariant-loop-next : goal.invariant-loop-next
invariant-loop-next l = record {
  walked : HasWalked (units_of l.units) l.bytes l.end l.cursor (λ xs. HasFound xs l.fn.found l.found l.count);
}

abbrev pub decreases-loop-next : goal.decreases-loop-next
decreases-loop-next l = length l.bytes - l.end

use Rattle.std.proofs.Common.{◌≡◌, ◌-◌, None, length}
use Rattle.icu_collections_c.specs.Inside.TextSteps.{last_of}
use Rattle.icu_collections_c.specs.UnitTries.{units_of}
use Rattle.icu_collections_c.proofs.TextStepLemmas.{HasWalked}
use Rattle.icu_collections_c.proofs.unit_tries.longest_in.Given as goal

-- The cursor has passed the characters so far, and the last prefix of these with a value is found.
abbrev pub invariant-loop-next : goal.invariant-loop-next
invariant-loop-next l = record {
  walked : HasWalked (units_of l.units) l.bytes l.end l.cursor (λ xs. l.found ≡ last_of None xs);
}

abbrev pub decreases-loop-next : goal.decreases-loop-next
decreases-loop-next l = length l.bytes - l.end

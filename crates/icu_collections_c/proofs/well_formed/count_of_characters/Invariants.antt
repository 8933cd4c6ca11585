use Rattle.std.proofs.Common.{◌≡◌, ◌+◌, ◌≤◌, drop}
use Rattle.icu_collections_c.proofs.Utf8LeadLemmas.{leads}
use Rattle.icu_collections_c.proofs.well_formed.count_of_characters.Given as goal

-- The characters that were counted and those that start at or after the current byte.
abbrev pub invariant-loop-i : goal.invariant-loop-i
invariant-loop-i l = (l.count + leads (drop l.i l.bytes) ≡ leads l.bytes) × (l.count ≤ l.i)

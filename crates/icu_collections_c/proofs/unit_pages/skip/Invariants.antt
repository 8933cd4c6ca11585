use Rattle.std.proofs.Common.{◌≤◌, drop}
use Rattle.icu_char16trie.specs.Listing.{AreToCome}
use Rattle.icu_char16trie.specs.UnitMap.{UnitMap}
use Rattle.icu_collections_c.proofs.unit_pages.skip.Given as goal

-- The entries so far are skipped.
abbrev pub invariant-loop-skipped : goal.invariant-loop-skipped
invariant-loop-skipped l = record {
  within : l._skipped ≤ l.fn.count;
  left : (m : UnitMap) → AreToCome l.fn.entries m → AreToCome l.entries (drop l._skipped m);
}

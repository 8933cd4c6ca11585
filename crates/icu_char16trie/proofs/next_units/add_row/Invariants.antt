use Rattle.icu_zerovec.specs.Slice.{slice_values}
use Rattle.std.proofs.Common.{◌≡◌, ℕ, ◌<◌, ◌^◌, List, ◌++◌}
use Rattle.icu_char16trie.specs.NextUnits.{RowUnits}
use Rattle.icu_char16trie.proofs.next_units.add_row.Given as goal

-- The units so far, followed by those of the rest of the row, are the units of the row.
abbrev pub invariant-loop-left : goal.invariant-loop-left
invariant-loop-left l = record {
  near : l.place < 2 ^ 63;
  so_far : (done : List ℕ) × (l.list.items ≡ l.fn.list.items ++ done)
      × ((us : List ℕ) → RowUnits (slice_values l.units) l.place l.left us
      → RowUnits (slice_values l.units) l.fn.row l.fn.count (done ++ us));
}

abbrev pub decreases-loop-left : goal.decreases-loop-left
decreases-loop-left l = l.left

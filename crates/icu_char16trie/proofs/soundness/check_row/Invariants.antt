use Rattle.icu_zerovec.specs.Slice.{slice_values}
use Rattle.std.proofs.Common.{ℕ, ◌^◌, ◌<◌, ◌≤◌, List, Bool}
use Rattle.icu_char16trie.specs.Inside.Soundness.{PartWalked, IsNoPart}
use Rattle.icu_char16trie.proofs.soundness.check_row.Given as goal

-- If the entries that are left are visited, so is the row; if they are rejected, so is the row.
abbrev pub invariant-loop-left : goal.invariant-loop-left
invariant-loop-left l = record {
  near : l.place < 2 ^ 63;
  some : 0 < l.left;
  short : l.left ≤ 5;
  walked : (next : ℕ) (new : List Bool) → PartWalked (slice_values l.units) l.place l.left l.least next l.wanted new
      → PartWalked (slice_values l.units) l.row l.count l.from next l.fn.wanted new;
  refused : IsNoPart (slice_values l.units) l.place l.left l.least → IsNoPart (slice_values l.units) l.row l.count l.from;
}

abbrev pub decreases-loop-left : goal.decreases-loop-left
decreases-loop-left l = l.left

use Rattle.icu_zerovec.specs.Slice.{slice_values}
use Rattle.std.proofs.Common.{ℕ, ◌^◌, ◌<◌, ◌≤◌, Option}
use Rattle.icu_char16trie.proofs.CountLemmas.{CountsFrom, CountsPart}
use Rattle.icu_char16trie.proofs.counted.count_row.Given as goal

-- The count so far and the count of the entries that are left make the count of the row.
abbrev pub invariant-loop-left : goal.invariant-loop-left
invariant-loop-left l = record {
  near : l.place < 2 ^ 63;
  short : l.left ≤ 5;
  counts : (r : Option ℕ) → CountsFrom (slice_values l.units) l.counts l.total l.place l.left r
      → CountsPart (slice_values l.units) l.counts l.row l.count r;
}

abbrev pub decreases-loop-left : goal.decreases-loop-left
decreases-loop-left l = l.left

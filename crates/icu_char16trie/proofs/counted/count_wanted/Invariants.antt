use Rattle.icu_zerovec.specs.Slice.{slice_values}
use Rattle.std.proofs.Common.{ℕ, ◌≤◌, length}
use Rattle.icu_char16trie.specs.Inside.Counts.{IsCounted}
use Rattle.icu_char16trie.specs.Inside.Soundness.{IsWanted}
use Rattle.icu_char16trie.proofs.counted.count_wanted.Given as goal

-- The entries of each marked node from here on are counted.
abbrev pub invariant-loop-place : goal.invariant-loop-place
invariant-loop-place l = record {
  within : l.place ≤ length (slice_values l.units);
  counted : (q : ℕ) → l.place ≤ q → IsWanted l.wanted q → IsCounted (slice_values l.units) l.counts q;
}

abbrev pub decreases-loop-place : goal.decreases-loop-place
decreases-loop-place l = l.place

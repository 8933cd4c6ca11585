use Rattle.icu_zerovec.specs.Slice.{slice_values}
use Rattle.std.proofs.Common.{ℕ, ◌↔◌}
use Rattle.icu_char16trie.specs.Inside.Counts.{IsClosed}
use Rattle.icu_char16trie.specs.Inside.Soundness.{AllWantedHave, IsWanted}
use Rattle.icu_char16trie.proofs.soundness.has_all_wanted.Given as goal

-- There are nodes at the indices marked at first exactly if there are nodes at those marked from
-- here on.
abbrev pub invariant-loop-place : goal.invariant-loop-place
invariant-loop-place l = record {
  told : AllWantedHave (slice_values l.units) l.wanted l.place ↔ AllWantedHave (slice_values l.units) l.fn.wanted 0;
  kept : (q : ℕ) → IsWanted l.fn.wanted q → IsWanted l.wanted q;
  closed : IsClosed (slice_values l.units) l.wanted l.place;
}

-- What other crates may use about tries over packed vectors. First: the ranges of a trie, and those
-- of a value, are ranges of code points.
pub use Rattle.icu_trie.proofs.GivenRanges.{All-given, All-selected}
-- There is one joined range for each group.
pub use Rattle.icu_trie.proofs.JoinedGroups.{joined_ranges-are}
-- Maps that are equal on all code points have the same mapped runs.
pub use Rattle.icu_trie.proofs.SameMaps.{AreMappedRunsFrom-same}

-- The definitions of joined ranges.
pub use Rattle.icu_trie.specs.JoinedRanges.{AreJoined, GoOn, StopsAt, continues, group_of, joined_ranges, joined_ranges_from, merged_range}
pub use Rattle.icu_trie.specs.Coalescer.{coalescer_gives, coalescer_peek, coalescer_source, coalescer_steps}

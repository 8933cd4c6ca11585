-- The definitions of maps that are written to and built: writes, the map after them, and what a
-- built trie is.
pub use Rattle.icu_trie_builder.specs.Writes.{answer_after, covers, is_accepted, last_written, value_after, write_first, write_last, write_value}
pub use Rattle.icu_trie_builder.specs.CodePointMap.{CodePointMap, IsAfter, map_answer, map_value}
pub use Rattle.icu_trie_builder.specs.MapAnswers.{AnswersMap, HasRangesOf}
pub use Rattle.icu_trie_builder.specs.Built.{IsBuiltFrom, IsBuiltHeader, IsDrawnFrom, IsWellBuilt}
pub use Rattle.icu_trie_builder.specs.Bounds.{IsTooLarge, compact_data_bound, data_bound, fast_blocks, index_blocks, index_bound, lone_small_blocks, short_index_bound, small_blocks, stands_in}
unfoldable pub use Rattle.icu_trie_builder.specs.Bounds.{stands_below}
-- Blocks of a map, and how many are different.
pub use Rattle.icu_trie_core.specs.Blocks.{window}
unfoldable pub use Rattle.icu_trie_core.specs.Blocks.{block_of, count_different}
unfoldable pub use Rattle.icu_trie_builder.specs.Different.{count_different_but}
pub use Rattle.icu_trie_builder.specs.NullBlock.{HoldsOne, SomeHoldsOne}
unfoldable pub use Rattle.icu_trie_builder.specs.NullBlock.{HasDefaultNull, NamesNoNull}
unfoldable pub use Rattle.icu_trie_builder.specs.NullBlock.{NamesNull, NamesNullIndex}

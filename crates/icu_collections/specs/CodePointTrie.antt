-- The definitions of code point tries: the format, look-ups, ranges, coherence, mapped tries and
-- typed views.
pub use Rattle.icu_trie_core.specs.Format.{fast_limit, fast_offset, high_cell, high_value, index1_start, index2_cell, long_offset, offset_in_block, place, place_or_last, with_cell}
unfoldable pub use Rattle.icu_trie_core.specs.Format.{answer, small_offset}
pub use Rattle.icu_trie_core.specs.Contents.{Contents, contents_of}
pub use Rattle.icu_trie_core.specs.FastIndex.{IsWhole, fast_index_len, passes_data}
pub use Rattle.icu_trie_core.specs.Coherence.{AnswersNull, HighAnswers, InsideAnswers, IsCoherent, IsShared, Null16, Null512, Null64, SameAnswers, StandsIn}
pub use Rattle.icu_trie_core.specs.Range.{GivesWalk, first_of, last_of, run_of, value_run}
pub use Rattle.icu_trie_core.specs.Runs.{AreMaximalRuns, AreRunsFrom, LongestRun, Run, some_run}
pub use Rattle.icu_trie_core.specs.Seen.{Misses, SeesFrom, is_cell, names_null}
unfoldable pub use Rattle.icu_trie_core.specs.Seen.{seen}
pub use Rattle.icu_trie.specs.Parts.{IsWhyNoTrie, Parts, cells_in, last_cell, parts_fault, same_trie, trie_value}
pub use Rattle.icu_trie.specs.Ranges.{AreRangesFrom, HasCodePoints, IsCoherentTrie, IsInRangeOf, IsRangeOfCodePoints, answers}
pub use Rattle.icu_trie.specs.Iterators.{GivesNextRange, iterator_next, iterator_trie}
pub use Rattle.icu_trie.specs.RangesOfValue.{AreRangesOfValue, AreRunsOfValue, GivesNextOfValue, value_iterator_source, value_iterator_value, with_value}
pub use Rattle.icu_trie.specs.MappedRanges.{Answers, AreAnswered, AreMappedRangesOf, AreMappedRunsFrom, GivesMapped, IsAnswered, LongestMappedRun, MapsTo}
pub use Rattle.icu_trie.specs.MappedRanges.{CanFuse, iter_mapped_source, iter_mapped_steps, mapped_callee, mapped_source}
pub use Rattle.icu_trie.specs.MappedTrie.{AnswersAlways, CallsInTurn, IsMapOfTrie, IsTrieOfAnswers, IsWhyNone, MapsInTurn, ok_answer}
pub use Rattle.icu_trie.specs.Conversion.{Becomes, same_packed, with_null_value}
pub use Rattle.icu_trie.specs.Typed.{IsOfType, IsTyped}
pub use Rattle.icu_trie.specs.View.{view_parts}
-- For a user-defined value type: the numbers of values, and the laws of the value types in the
-- crate.
pub use Rattle.icu_trie_core.specs.ValueNumbers.{GivesType, character, fitting, is_within, signed_fitting, type_number}
pub use Rattle.icu_trie_core.specs.ValueNumberLaws.{character-scalar, equal_numbers, equal_signed_numbers, fitting-small, signed_fitting-number}

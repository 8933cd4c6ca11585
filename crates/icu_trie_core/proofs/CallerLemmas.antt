-- What other crates may use about the trie format and about maximal runs. First: the look-up result
-- of a code point, from the data offset of its block.
pub use Rattle.icu_trie_core.proofs.AnswerLemmas.{fast_answer, small_answer}
-- What a whole fast index implies about the blocks it names.
pub use Rattle.icu_trie_core.proofs.FastIndexLemmas.{in_fast_index, block_inside, data_at_least}
-- A returned range is the longest run from its start on.
pub use Rattle.icu_trie_core.proofs.RangeLemmas.{LongestRun-from_gives}
-- A map has exactly one list of maximal runs. Maps that are equal on all code points have the same
-- list.
pub use Rattle.icu_trie_core.proofs.RunLemmas.{AreMaximalRuns-same, AreMaximalRuns-some, runs-unique, value_runs-some}

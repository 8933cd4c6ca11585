-- Lemmas for callers' proofs, from all crates below.
--
-- Packed vectors: their values, the one encoding of each value, and a conversion that leaves the
-- bytes unchanged.
pub use Rattle.icu_zerovec.proofs.CallerLemmas.{canonical_char, canonical_i16, canonical_i32, canonical_i8, canonical_point, canonical_u16, canonical_u32, canonical_u8, converted_err, converted_ok, drained_list, get-values_of, length-values_of, pack-get}
-- Sets: their members, their ranges and sizes, and when two are equal.
pub use Rattle.icu_invlist.proofs.CallerLemmas.{complement_valid, complement-holds, holds-nil, not_past_limit, ranges_apart, ranges_hold, ranges_within, said_alone}
pub use Rattle.icu_invlist.proofs.CallerLemmas.{counts_of_complements, fewer_below, same_parts, same_sets, sizes_of_complements}
pub use Rattle.icu_text_sets.proofs.CallerLemmas.{equal_sets_hold_alike, sets_decide}
pub use Rattle.icu_frozen_sets.proofs.CallerLemmas.{spans_of_drained}
pub use Rattle.icu_trie_core.proofs.CallerLemmas.{AreMaximalRuns-same, AreMaximalRuns-some, LongestRun-from_gives, runs-unique, value_runs-some}
pub use Rattle.icu_trie.proofs.CallerLemmas.{All-given, All-selected, AreMappedRunsFrom-same, joined_ranges-are}
-- Values along a text: the items of an iterator until nothing is left.
pub use Rattle.icu_trie_text.proofs.CallerLemmas.{indices_of_drained, values_of_bytes_drained, values_of_drained, values_of_text}
pub use Rattle.icu_utf.proofs.CallerLemmas.{length-code_points}
-- Values that are copied to a buffer: the first parts of bytes, then those of the bytes that follow, are
-- all parts, a part is copied if there is a byte and room for a value, and no part is empty.
pub use Rattle.icu_trie_text.proofs.CallerLemmas.{copied_some, first_values_append}
pub use Rattle.icu_utf.proofs.CallerLemmas.{part_size}
-- A trie and the one that is read back after it was written in ICU's binary form.
pub use Rattle.icu_trie_binary.proofs.CallerLemmas.{answers-stored, coherent-stored, coherent-stored_far, coherent-stored_in, stored-one, stored_form-same}
-- If the trie was built, the one that is read back is coherent.
pub use Rattle.icu_collections.proofs.BuiltStored.{coherent-built, coherent-read}
-- A trie of a map: its writes, its look-ups, its ranges, and its null block.
pub use Rattle.icu_trie_builder.proofs.CallerLemmas.{IsAfter-append, error-of-map, map_answer-after, mapped-ranges-of-map, ranges-of-map, value_after-append}
pub use Rattle.icu_trie_builder.proofs.CallerLemmas.{NamesNull-some, answer-of-map, longest_of_map, no_512-of-map, no_answer-of-map}
-- Entries of unit tries: with one more entry, and of a run of `iter2`.
pub use Rattle.icu_char16trie_builder.proofs.CallerLemmas.{AreEntries-of_run, IsAscendingKeys-with_entry, most_units-with_entry, shown, text_of, texts_of_entries, value_of-with_entry}
pub use Rattle.icu_char16trie_builder.proofs.CallerLemmas.{goes_on-with_entry, value_of-added, value_of-others}
-- Keys that continue after some units, and the longest match, which is unique.
pub use Rattle.icu_char16trie.proofs.CallerLemmas.{IsLongestMatch-one, LongestWithin-one, none_beyond}
-- The entries of a map and the values of its keys, which ascend.
pub use Rattle.icu_char16trie.proofs.CallerLemmas.{Contains-value_of, first_units-ascending, same_key_eq, same_key_self, trie_ascends, value_of-listed, value_of-some}

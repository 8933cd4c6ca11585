-- The definitions of unit tries: maps from lists of units, the grammar of their units, what cursors
-- and entries return, and the entries of a builder.
pub use Rattle.icu_char16trie.specs.UnitMap.{IsAscendingKeys, KeyBelow, KeyBelowAll, UnitMap, under}
unfoldable pub use Rattle.icu_char16trie.specs.UnitMap.{after, after_all, same_key, value_of}
unfoldable pub use Rattle.icu_char16trie.specs.UnitMap.{goes_on, key_goes_on}
pub use Rattle.icu_char16trie.specs.Grammar.{IsTrieOf}
pub use Rattle.icu_char16trie.specs.UnitPlaces.{At, HasPassed, InRun, Stands, ends_by, is_empty_at, value_at, value_by}
pub use Rattle.icu_char16trie.specs.CursorPlaces.{place_of}
pub use Rattle.icu_char16trie.specs.Steps.{StepsAlong, StepsTo}
pub use Rattle.icu_char16trie.specs.Passed.{Passes, answer_at, result_of}
pub use Rattle.icu_char16trie.specs.Matches.{HasFrontStepped, HasFrontValue, HasValueAlong, IsLongestMatch, IsLongestStepped, LongestWithin}
pub use Rattle.icu_char16trie.specs.Matches.{HasCharsStepped, HasCharsValue, IsLongestInText, IsLongestSteppedInText, front_units, in_bytes, text_units}
pub use Rattle.icu_char16trie.specs.Matches.{match_at, matches_from, matches_of}
pub use Rattle.icu_char16trie.specs.MatchesLeft.{AreLeft, AreLeftAt, GivesMatch, fronts_by, fronts_left}
pub use Rattle.icu_char16trie.specs.Entries.{AreCutShort, AreEntries, GivesNext, IsDone, IsLeft}
pub use Rattle.icu_char16trie.specs.Listing.{AreToCome, Advances, EndsUnlessReached, IsAtEnd, IsSomeValue, entries_work, entry_text, entry_value, listed_units}
pub use Rattle.icu_char16trie.specs.NextUnits.{AllAbove, AreAscending, GoesOnWith, unit_list, without_first}
unfoldable pub use Rattle.icu_char16trie.specs.NextUnits.{first_units}
pub use Rattle.icu_char16trie.specs.OneValue.{AllHaveValue, HaveOneValue, StandsForOneValue}
pub use Rattle.icu_char16trie.specs.LossyText.{key_text}
unfoldable pub use Rattle.icu_char16trie_builder.specs.Entries.{most_units, with_entry}
pub use Rattle.icu_char16trie_builder.specs.Sorted.{IsFirstRefusedKey, IsInOrder, key_at, pair_map}
pub use Rattle.icu_char16trie_builder.specs.Errors.{entry_refusal}
-- The format, unit by unit, where a unit leads, and what an iterator has left.
pub use Rattle.icu_char16trie.specs.Constants
pub use Rattle.icu_char16trie.specs.Numbers
pub use Rattle.icu_char16trie.specs.Grammar
pub use Rattle.icu_char16trie.specs.Steps
pub use Rattle.icu_char16trie.specs.Pending
pub use Rattle.icu_char16trie.specs.Walk
pub use Rattle.icu_char16trie.specs.NextUnits

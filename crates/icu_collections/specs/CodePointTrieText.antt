-- The definitions of values along texts: characters, 16-bit units, and bytes that may be ill-formed
-- UTF-8.
pub use Rattle.icu_trie_text.specs.Values.{AreValuesOf, GivesValue, value_item, with_values}
pub use Rattle.icu_trie_text.specs.Indices.{AreIndicesOf, GivesIndex, index_item, with_indices, with_offsets}
pub use Rattle.icu_trie_text.specs.Found.{AnswersOf, AreAccepted, AreRefused, IsAcceptedFront, IsFirstAccepted, IsFirstRefused}
unfoldable pub use Rattle.icu_utf.specs.Utf16.{code_points_of}
pub use Rattle.icu_utf.specs.Utf8.{BeginsCharacter, IsFirstPart, IsIllFormedPart}
pub use Rattle.icu_trie_text.specs.Utf8Values.{AreValuesOfBytes, BytesToValue, GivesPart, IsFirstItem, part_value}
pub use Rattle.icu_trie_text.specs.Copied.{AreFirstValues, IsCopied}

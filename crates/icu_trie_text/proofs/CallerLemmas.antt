-- Lemmas for callers' proofs on values along texts. Those on the characters alone are in icu_utf.
--
-- The items that an iterator returns until nothing is left: the code points, each with its value.
pub use Rattle.icu_trie_text.proofs.ValueLemmas.{values_of_drained}
-- The same with the offsets of the characters.
pub use Rattle.icu_trie_text.proofs.IndexLemmas.{indices_of_drained}
-- The parts of bytes, each with its value. Those of a text are its characters.
pub use Rattle.icu_trie_text.proofs.Utf8ValueLemmas.{values_of_bytes_drained, values_of_text}
-- Values that are copied to a buffer: the first parts of bytes, then those of the bytes that follow, are
-- all parts, and a part is copied if there is a byte and room for a value.
pub use Rattle.icu_trie_text.proofs.CopiedItems.{copied_some, first_values_append}
-- The first part of a text is its first character.
pub use Rattle.icu_trie_text.proofs.CopiedItems.{text_next}
-- The code points that have their values at their own index in the data.
pub use Rattle.icu_trie_text.proofs.AsciiLemmas.{ascii_known}

-- Lemmas for callers' proofs on the first and the last character of a text.
--
-- Two characters at the end of the same bytes are the same.
pub use Rattle.icu_utf.proofs.CharacterLemmas.{last_same}
-- A character has one to four bytes. The first character of the rest of bytes, and the last one of the
-- first bytes, are within the bytes.
pub use Rattle.icu_utf.proofs.CharacterLemmas.{last_part, past_part, size_of}
-- The bytes of a character after its first one are trail bytes, and the first one is none.
pub use Rattle.icu_utf.proofs.CharacterLemmas.{lead_of, trail_of}
-- There are no more code points than units.
pub use Rattle.icu_utf.proofs.Utf16Lemmas.{length-code_points}
-- A part takes at least one byte and at most four, and is within the bytes.
pub use Rattle.icu_utf.proofs.Utf8Parts.{part_near, part_size}
-- The first character of bytes, by its own bytes.
pub use Rattle.icu_utf.proofs.Utf8Parts.{part_of_ascii, two_bytes_found}
pub use Rattle.icu_utf.proofs.Utf8Bytes.{four_bytes_found, three_bytes_found}
-- The same, by the six bits of each of its trail bytes. Bytes that are not the first ones of a
-- character start none.
pub use Rattle.icu_utf.proofs.Utf8Parts.{four_found, not_first, three_found, trail_at, two_found}
-- The bytes of a character at the start, by its size.
pub use Rattle.icu_utf.proofs.Utf8Bytes.{HasHigh, byte_of_one, bytes_of_four, bytes_of_three, bytes_of_two}

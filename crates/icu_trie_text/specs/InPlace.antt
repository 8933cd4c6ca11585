-- Tries whose data start with the values of ASCII, for the crates that build on this one.
pub use Rattle.icu_trie_text.specs.Inside.Ascii.{HasAsciiInPlace}

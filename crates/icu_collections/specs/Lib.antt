-- The definitions in public contracts, a page for each module of the crate, so a caller needs no
-- other crate.
pub mod ZeroVec
pub mod CodePointInversionList
pub mod CodePointInversionListAndStringList
pub mod CodePointTrie
pub mod CodePointTrieBuilder
pub mod CodePointTrieText
pub mod Char16Trie
pub mod IteratorUtils
-- The JSON and TOML forms, and the first error of a reader that reads item by item.
pub use Rattle.icu_zerovec.specs.FirstFault
pub use Rattle.icu_invlist.specs.SetJson
pub use Rattle.icu_text_sets.specs.TextSetJson
pub use Rattle.icu_trie_formats.specs.TrieOfParts
pub use Rattle.icu_trie_formats.specs.TrieJson
pub use Rattle.icu_trie_formats.specs.TrieToml
pub use Rattle.icu_trie_formats.specs.Planes
-- ICU's serialized form of sets.
pub use Rattle.icu_invlist_binary.specs.SerializedSet
-- ICU's binary form of tries.
pub use Rattle.icu_trie_binary.specs.BinaryHeader
pub use Rattle.icu_trie_binary.specs.BinaryTrie
pub use Rattle.icu_trie_binary.specs.WrittenTrie
pub use Rattle.icu_trie_binary.specs.SwappedTrie
pub use Rattle.icu_char16trie.specs.Char16Json

-- The map from which a trie is built.
pub mod NumberMap
pub mod Blocks
pub mod Numbers

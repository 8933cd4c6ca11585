-- The index of a trie.
pub mod Layout
pub mod Index3Cells
pub mod IndexParts

-- Definitions for private functions and their proofs. No public contract uses them.
pub mod Map
pub mod Compaction
pub mod Index
pub mod Data
pub mod FilledBlocks
pub mod NumberTrie
pub mod ValuesOfNumbers
pub mod MapBlocks

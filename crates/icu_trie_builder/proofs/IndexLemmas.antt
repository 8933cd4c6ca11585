-- The index of a trie and its blocks.
pub mod Growing
pub mod PackingLemmas
pub mod Laying
pub mod NullIndex
pub mod Shared
pub mod Indexing
pub mod Tails
pub mod Upper

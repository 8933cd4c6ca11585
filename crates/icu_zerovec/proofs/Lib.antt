pub mod CallerLemmas
pub mod CanonicalLemmas
pub mod CellsLemmas
mod SameLemmas
pub mod Converted
pub mod FirstFaultLemmas
pub mod DrainLemmas
mod Chunks
mod PrefixLemmas
mod CellSearches
mod Searches
mod PartitionPoints

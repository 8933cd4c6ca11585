-- Windows of cells, their hashes, and blocks that are found or appended.
pub mod Windows
pub mod HashLemmas
pub mod TableLemmas
pub mod Compacting
pub mod Counts
pub mod Different
pub mod Placing

-- Cells among which blocks are found, or to which they are appended.
pub mod Hashes
pub mod Windows
pub mod Placed

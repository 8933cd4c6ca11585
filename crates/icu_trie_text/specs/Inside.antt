-- Definitions for the functions inside the crate and their proofs. No public contract uses them.
pub mod Ascii
pub mod Lookup
pub mod TwoBytes

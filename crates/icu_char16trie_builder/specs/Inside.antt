-- Definitions for the functions inside the crate and their proofs. No public contract uses them.
pub mod Encoding
pub mod Written
pub mod Cuts
pub mod Steps
pub mod Refusals

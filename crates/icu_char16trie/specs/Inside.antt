-- Definitions for the functions inside the crate and their proofs. No public contract uses them.
pub mod Adding
pub mod Cuts
pub mod Fronts
pub mod Going
pub mod Opening
pub mod Soundness
pub mod Texts
pub mod Counts
pub mod Values
pub mod Walking

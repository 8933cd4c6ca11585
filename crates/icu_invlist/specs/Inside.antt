-- Definitions for the contracts of private functions. No public contract uses them.
pub mod Places
pub mod Merging
pub mod MergeSteps
pub mod StillGiven
pub mod GivenEnds
pub mod Stretches
pub mod PackedSets

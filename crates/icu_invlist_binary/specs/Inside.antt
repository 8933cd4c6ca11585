-- Definitions for the contracts of private functions. No public contract uses them.
pub mod LentEnds
pub mod Target

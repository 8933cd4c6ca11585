-- Definitions for the contracts of private functions and for proofs. No public contract uses them.
pub mod StringPlaces
pub mod StringFaults
pub mod JsonParts

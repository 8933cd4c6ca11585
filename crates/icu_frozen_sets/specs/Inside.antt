-- Definitions for the contracts of private functions and for proofs. No public contract uses them.
pub mod Characters
pub mod Filling
pub mod SpanConditions
pub mod ThreeByte
pub mod TwoByte

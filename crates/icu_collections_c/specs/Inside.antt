-- Definitions for the private functions of the crate and their proofs. No public contract cites
-- them.
pub mod BuiltValues
pub mod Joined
pub mod Listed
pub mod NumberLaws
pub mod Pages
pub mod SetPlaces
pub mod TextCells
pub mod TextSteps

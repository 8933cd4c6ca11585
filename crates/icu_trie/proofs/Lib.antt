pub mod CallerLemmas
mod CellBytesLemmas
mod ConversionLemmas
mod FastCells
mod Positions
pub mod IteratorLemmas
pub mod SetLemmas
pub mod JoinedLemmas
pub mod ValueLemmas
pub mod MappedTrieLemmas
pub mod MappedLemmas
pub mod GivenRanges
pub mod JoinedGroups
pub mod SameMaps

pub mod EncodingLemmas
pub mod ShiftLemmas
pub mod LevelLemmas
pub mod StepLemmas
pub mod CutLemmas
pub mod ArmLemmas
pub mod OpenLemmas
pub mod KnownLemmas
pub mod EntryLemmas
pub mod SortedLemmas
mod LongerKeys
pub mod TextLemmas
pub mod CallerLemmas

pub mod InversionList
pub mod Changes
pub mod NamedCodePoints
pub mod Refusals
pub mod SetJson
pub mod Inside
pub mod Merge

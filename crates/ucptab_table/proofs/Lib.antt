pub mod CallerLemmas
pub mod Bytes
pub mod InputLines
pub mod Powers
pub mod Printed
pub mod RowSteps
pub mod WordSteps
mod Asked
mod PatternLemmas
mod RangeRuns

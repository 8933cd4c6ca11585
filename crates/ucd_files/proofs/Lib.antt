pub mod CallerLemmas
mod ChoiceLemmas
mod CoverageLemmas
mod GroupLemmas
mod KnownNames
mod NameLemmas
mod StatementSteps
mod WriteLemmas

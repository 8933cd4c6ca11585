mod BinaryLemmas
pub mod CallerLemmas
mod CellsAppended
mod JoinedParts
mod PaddedAnswers
mod PaddedCoherence
mod PartsLemmas
mod StoredForm
mod StoredIndex
mod SwappedUnits
mod WrittenHeader
mod WrittenLemmas

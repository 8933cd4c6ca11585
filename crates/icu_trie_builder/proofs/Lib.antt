pub mod CallerLemmas
mod MapLemmas
pub mod CompactionLemmas
pub mod IndexLemmas
pub mod NullLemmas
mod NoNullBlock
mod SharedLemmas
mod FewWrites
pub mod DataLemmas
mod DrawnLemmas
pub mod Answering
pub mod AboveLemmas
pub mod Sizes
mod AfterLemmas
mod WholeLemmas
mod SameMapLemmas
mod TypedLemmas
mod ValuesOfNumbers
mod BuilderLemmas
mod RangesOfMap
mod BuiltAlike
mod AmendLemmas

mod AskedLemmas
pub mod CallerLemmas
mod DifferenceLemmas
mod JoinLemmas
mod Printed
mod RebuildLemmas
mod SameNumbers
mod ShownLemmas
mod SizeLemmas
mod SourceLemmas
mod TableLemmas
mod WideLemmas

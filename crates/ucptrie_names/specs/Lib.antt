pub mod JoinSource
pub mod NamesList
pub mod NamesSource
pub mod ValueIdentifiers

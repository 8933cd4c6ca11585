mod BuiltStored
pub mod CallerLemmas

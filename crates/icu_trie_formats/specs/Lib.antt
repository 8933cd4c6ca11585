pub mod Planes
pub mod TrieOfParts
pub mod TrieJson
pub mod TrieToml
pub mod Inside

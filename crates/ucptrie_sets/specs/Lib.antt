pub mod Rows
pub mod SetSource
pub mod SetToml
pub mod Sets
pub mod TomlSets
pub mod WrittenSets

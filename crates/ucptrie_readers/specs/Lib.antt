pub mod Files
pub mod Inside
pub mod OtherToml
pub mod Properties
pub mod TomlFiles
pub mod TomlNames
pub mod UnicodeFiles

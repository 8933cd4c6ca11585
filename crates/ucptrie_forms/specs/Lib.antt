pub mod Stated
pub mod TableSource

pub mod Lines
pub mod Words
pub mod Rows
pub mod Units
pub mod Messages
pub mod StaticSource

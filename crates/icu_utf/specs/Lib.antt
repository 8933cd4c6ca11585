pub mod Trails
pub mod Utf16
pub mod Utf8

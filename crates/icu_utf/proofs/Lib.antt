pub mod CallerLemmas
pub mod CharacterLemmas
pub mod TextLemmas
pub mod Utf16Lemmas
pub mod Utf8Absent
pub mod Utf8Bytes
pub mod Utf8Parts
pub mod Utf8Table

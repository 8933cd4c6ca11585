pub mod Hints
pub mod Inside
pub mod Messages
pub mod Patterns
pub mod TableText
pub mod Words

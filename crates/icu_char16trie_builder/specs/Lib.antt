pub mod Entries
pub mod Sorted
pub mod Errors
pub mod Inside

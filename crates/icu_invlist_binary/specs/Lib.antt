pub mod SerializedSet
pub mod Inside

pub mod Writes
pub mod CodePointMap
pub mod Different
pub mod Bounds
pub mod NullBlock
pub mod Built
pub mod MapAnswers
pub mod Inside

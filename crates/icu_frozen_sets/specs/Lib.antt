pub mod FrozenView
pub mod FrozenWords
pub mod LongestSpans
pub mod Spans
pub mod TextFronts
pub mod Inside

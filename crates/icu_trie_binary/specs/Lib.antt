pub mod BinaryHeader
pub mod BinaryTrie
pub mod WrittenTrie
pub mod SwappedTrie
pub mod Inside

pub mod TextSet
pub mod TextFaults
pub mod TextSetLaws
pub mod TextSetJson
pub mod Inside

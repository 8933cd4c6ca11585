-- Words that the functions inside the crate and their proofs need. No public contract cites them.
pub mod ReadProperties

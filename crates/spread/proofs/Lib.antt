-- What the proofs of several functions use.
pub mod Lying
pub mod Counting

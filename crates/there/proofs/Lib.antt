-- What the proofs of several crates use.
pub mod Counts
pub mod Places
pub mod Partial
pub mod Turned

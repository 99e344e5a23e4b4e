pub mod Verdict
pub mod Reached

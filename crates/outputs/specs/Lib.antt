-- What the functions for C hand out.
pub mod Outputs
pub mod Walks

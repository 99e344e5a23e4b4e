pub mod Places
pub mod Turned
pub mod Samples
pub mod Blocks

pub mod Scan
pub mod Passing

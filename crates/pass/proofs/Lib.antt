pub mod Scans
pub mod Turns
pub mod Stretches
pub mod Bare
pub mod Records
pub mod Cut

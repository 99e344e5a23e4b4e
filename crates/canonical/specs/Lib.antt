pub mod Recording
pub mod Canonical
pub mod Write

pub mod Laid
pub mod Turned

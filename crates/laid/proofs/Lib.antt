pub mod Places
pub mod Each
pub mod Laid
pub mod Turned

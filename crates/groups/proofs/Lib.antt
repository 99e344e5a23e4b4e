pub mod Sizes
pub mod Signed
pub mod Puts

pub mod Whole
pub mod Laws
pub mod Asks
pub mod Stretches

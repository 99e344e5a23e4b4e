pub mod Framing
pub mod AnyNumbers

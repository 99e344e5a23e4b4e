pub mod Stores
pub mod Number
pub mod Length

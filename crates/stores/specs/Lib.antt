pub mod Number
pub mod Storing
pub mod Length

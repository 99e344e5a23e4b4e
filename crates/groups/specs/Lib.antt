pub mod Item
pub mod Head
pub mod Group
pub mod Parts

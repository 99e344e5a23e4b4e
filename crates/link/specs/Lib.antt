pub mod Link
pub mod Order
pub mod Feed
pub mod Runs

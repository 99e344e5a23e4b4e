pub mod Given
pub mod Make
pub mod Rows

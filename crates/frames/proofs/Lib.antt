pub mod Coming
pub mod Parting
pub mod Samples
pub mod Given
pub mod Stored

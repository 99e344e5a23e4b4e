pub mod Keeps
pub mod Steps
pub mod Every
pub mod Tables
pub mod Bounds
pub mod Frames
pub mod Settled
pub mod Cuts

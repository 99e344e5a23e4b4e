-- All samples of a frame.
pub mod Sweep

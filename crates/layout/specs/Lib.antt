pub mod Frame
pub mod Measure

-- Samples of one channel: the bits of many, and how values are told.
pub mod Samples
pub mod Walked

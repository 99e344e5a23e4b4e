-- Samples of one channel of the frame that a walk stands behind.
pub mod Tour

-- The samples of a channel of a frame: where they lie.
pub mod Spread
pub mod Lies

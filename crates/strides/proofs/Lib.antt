-- What the proofs of several functions use.
pub mod Walks
pub mod Laying
pub mod Channels

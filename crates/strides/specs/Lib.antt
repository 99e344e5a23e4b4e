-- The samples there of a channel of a frame, and of all its channels, laid into a buffer, and how the loops walk them.
pub mod Laying
pub mod Channels
pub mod Walked

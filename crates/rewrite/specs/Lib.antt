-- What the program writes.
pub mod Rewritten

-- What the program writes.
pub mod Said

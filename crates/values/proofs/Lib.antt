-- Laws of the definitions of specs/, that a float has exactly the file's bits, and examples.
pub mod Laws
pub mod Exact
pub mod Told
pub mod Examples

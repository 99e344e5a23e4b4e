-- What the octets of a sample stand for.
pub mod Sample
pub mod Told

-- Laws of the definitions of specs/, which this crate's proofs and its callers cite, and examples.
pub mod Pick
pub mod Laws
pub mod Machine
pub mod Octets
pub mod Examples

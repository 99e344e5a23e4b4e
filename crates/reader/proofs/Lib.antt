pub mod Ordered
pub mod Good
pub mod Never
pub mod There
pub mod Order
pub mod Answers
pub mod Checks

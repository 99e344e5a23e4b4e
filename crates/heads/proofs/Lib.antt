pub mod Heads
pub mod Forms
pub mod Faults

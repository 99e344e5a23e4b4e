pub mod Framings

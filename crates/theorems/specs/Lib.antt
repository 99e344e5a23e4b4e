-- When a file is refused, as document 01's tables say it, and what a recording says: what a reader has to believe of the demands.
pub mod Attributes
pub mod Rows
pub mod Refusing
pub mod Told
pub mod Walks
pub mod Making

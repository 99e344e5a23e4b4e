pub mod Define

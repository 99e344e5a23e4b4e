pub mod Rows
pub mod Laying

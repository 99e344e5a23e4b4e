pub mod Laws
pub mod Leading
pub mod Laying

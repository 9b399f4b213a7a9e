pub mod Products
pub mod Turns

pub mod Products
pub mod Effects

pub mod Tells
pub mod Sides
pub mod Crews
pub mod Taking
pub mod Parts
pub mod Reading
pub mod Standing
pub mod Closing

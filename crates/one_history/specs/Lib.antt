pub mod Reached
pub mod Hidden

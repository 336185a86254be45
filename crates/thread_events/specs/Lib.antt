pub mod Standing
pub mod Heard

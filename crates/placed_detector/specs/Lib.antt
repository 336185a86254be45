pub mod Standing
pub mod Instructions
pub mod Slots
pub mod First

pub mod Watch
pub mod Checking
pub mod Turns
pub mod Along
pub mod Rounds
pub mod Right

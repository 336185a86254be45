pub mod Joint
pub mod Along
pub mod Rounds

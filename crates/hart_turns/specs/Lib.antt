pub mod Checks
pub mod Hearing
pub mod Slots
pub mod Places
pub mod Instructions
pub mod Makes
pub mod Serves
pub mod AtDesk

pub mod Starts
pub mod Partials
pub mod Puts

pub mod Draws
pub mod Words
pub mod Notation
pub mod Program
pub mod Executable

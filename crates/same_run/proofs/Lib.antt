pub mod Machine
pub mod Runs
pub mod Words
pub mod Calls

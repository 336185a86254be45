pub mod Machine
pub mod Threads
pub mod Events
pub mod Steps
pub mod Agrees

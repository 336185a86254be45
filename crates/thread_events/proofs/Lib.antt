pub mod Longer
pub mod Threads
pub mod Events
pub mod Raises
pub mod Notes
pub mod All

pub mod Desks
pub mod Steps
pub mod Journals
pub mod Threads
pub mod Kept
pub mod History

pub mod Memory
pub mod MemoryFiles
pub mod Ports

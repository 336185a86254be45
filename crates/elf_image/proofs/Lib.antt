pub mod Rising
pub mod Pairs
pub mod Order
pub mod Accepting
pub mod Loaded
pub mod Kept
pub mod MemoryLaws
pub mod Finding

pub mod LabelRange
pub mod Spelling
pub mod Snapshot
pub mod Held
pub mod Part
pub mod Sought

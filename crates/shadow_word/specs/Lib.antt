pub mod Cells
pub mod Decisions

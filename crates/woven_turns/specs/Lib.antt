pub mod Steps
pub mod Weave
pub mod Turns
pub mod Cells
pub mod Cuts
pub mod Following

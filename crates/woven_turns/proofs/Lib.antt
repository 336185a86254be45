pub mod Standing
pub mod Items
pub mod Weaving
pub mod Sorting
pub mod Given
pub mod Placing
pub mod Loading
pub mod Cutting
pub mod Following
mod Example

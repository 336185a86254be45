pub mod Members
pub mod Functions
pub mod Runs
pub mod Sorting
pub mod Stamps
pub mod Rounds
pub mod Splits
pub mod Plain
pub mod Many
pub mod Permuted
mod Example

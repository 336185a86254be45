pub mod Split
pub mod Next
pub mod Stays
pub mod Takes
pub mod Leaves
pub mod Checks
pub mod Part
pub mod Runs

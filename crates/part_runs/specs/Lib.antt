pub mod Runs
pub mod Told
pub mod Ends
pub mod Next

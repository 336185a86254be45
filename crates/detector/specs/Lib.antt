pub mod Detected
pub mod Checked
pub mod Stands
pub mod Checking
pub mod Hears
pub mod Told

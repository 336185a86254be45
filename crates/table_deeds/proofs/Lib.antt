pub mod First
pub mod Lines
pub mod Left
pub mod Opening
pub mod Listing
pub mod Parts
pub mod Rounds
pub mod Stamps

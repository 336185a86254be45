pub mod Objects
pub mod Rounds
pub mod Listing

pub mod Awaits
pub mod Rounds
pub mod Sorting
pub mod Telling

pub mod Tags
pub mod Seats
pub mod Rounds

pub mod Sound
pub mod Owners
pub mod Awaited
pub mod Races
pub mod Offered

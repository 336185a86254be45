pub mod Suits
pub mod Making
pub mod Together
pub mod Run
pub mod Listed
pub mod Rounds

pub mod Numbered
pub mod Made
pub mod Entries
pub mod Lines
pub mod Permuted
pub mod Rounds
pub mod Histories

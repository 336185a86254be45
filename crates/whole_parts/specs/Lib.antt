pub mod Dues
pub mod Tries

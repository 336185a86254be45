pub mod Ranges
pub mod Going
pub mod Turned
pub mod Follows
pub mod Pushed

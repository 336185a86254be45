pub mod Command
pub mod Numbers
pub mod Plans
pub mod Requests
pub mod Parts

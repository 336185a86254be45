pub mod Made
pub mod Logs
pub mod Known

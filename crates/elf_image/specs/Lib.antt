pub mod Bytes
pub mod Headers
pub mod Regions
pub mod File
pub mod Accepted
pub mod Sections

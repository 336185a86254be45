pub mod Ids
pub mod Objects
pub mod Inside
pub mod Channels

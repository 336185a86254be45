pub mod Decoding
pub mod Lengths
pub mod Accepting
pub mod Making
pub mod Instructions
pub mod Fetching

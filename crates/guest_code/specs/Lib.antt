pub mod Decoded
pub mod Blocks
pub mod Locals

pub mod SoFar
pub mod Turns
pub mod Going
pub mod Still

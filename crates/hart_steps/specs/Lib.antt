pub mod Asked
pub mod Harts
pub mod Stripes
pub mod Desks

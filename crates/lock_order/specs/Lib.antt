pub mod Edges
pub mod Found
pub mod Texts
pub mod Cycles
pub mod Knots

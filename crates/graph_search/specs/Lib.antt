pub mod Graphs
pub mod Walks
pub mod Searches
pub mod Knots
pub mod Descents
pub mod Gatherings

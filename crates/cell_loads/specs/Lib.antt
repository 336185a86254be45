pub mod Spans
pub mod Pasts

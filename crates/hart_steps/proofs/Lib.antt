pub mod StripeLemmas
pub mod DeskLemmas
pub mod LocalTurns

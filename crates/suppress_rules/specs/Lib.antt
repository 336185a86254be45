pub mod Patterns
pub mod Pieces
pub mod Texts
pub mod RuleFile
pub mod Stacks
pub mod FrameTests
pub mod Order

pub mod HeldLaws
pub mod KeptLaws

pub mod GraphLaws
pub mod SearchLaws
pub mod ReachLaws
pub mod DescentLaws
pub mod KnotLaws
pub mod RowLaws

pub mod EdgeLaws
pub mod WayLaws
pub mod KnotLaws
pub mod KnownKnots
pub mod NodeLaws
pub mod NumberLaws
pub mod RingLaws
pub mod SameText

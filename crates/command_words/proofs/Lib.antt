mod Taken
mod NumberLaws
mod PlanLaws
mod RequestLaws
mod EachOption
mod Spellings
pub mod OnLiterals

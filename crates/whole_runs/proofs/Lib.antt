pub mod Runs
pub mod AnyPlan

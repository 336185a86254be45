pub mod Longer
pub mod Fitting
pub mod Hearing
pub mod Instructions
pub mod Eras
pub mod Slots
pub mod First

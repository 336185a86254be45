pub mod Lists
pub mod Machine
pub mod Output
pub mod Found
pub mod FirstRounds
pub mod PartialLaw
pub mod PutLaw

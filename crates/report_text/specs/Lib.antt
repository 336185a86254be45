pub mod Pairs
pub mod Fates
pub mod Offers
pub mod Texts
pub mod Status

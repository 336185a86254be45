pub mod Watched
pub mod Walk
pub mod Parts
pub mod Lending
pub mod History

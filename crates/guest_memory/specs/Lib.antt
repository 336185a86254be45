pub mod Fields
pub mod Reservations

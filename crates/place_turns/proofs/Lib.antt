pub mod Lists
pub mod Threads
pub mod Reservations
pub mod Memory
pub mod States
pub mod Serving
pub mod Calls
pub mod First

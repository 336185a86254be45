pub mod Sound
pub mod Firsts
pub mod Found
pub mod Owned
pub mod Ends
pub mod Next
pub mod Awaits
pub mod Left

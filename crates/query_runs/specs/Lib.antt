pub mod Stands
pub mod Ends
pub mod Turns

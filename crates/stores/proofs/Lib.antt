pub mod Held
pub mod GaveFacts

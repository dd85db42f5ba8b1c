pub mod RunCause
pub mod RunOf
pub mod Run
pub mod Turns
pub mod Starts
pub mod Trimmed
pub mod Progress

pub mod Cause
pub mod Function
pub mod Tree
pub mod Number
pub mod Level
pub mod Part
pub mod Call

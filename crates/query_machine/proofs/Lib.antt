pub mod Trimming
pub mod Bounds
pub mod Ends
pub mod Turning

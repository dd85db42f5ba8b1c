pub mod Held
pub mod Stock
pub mod Lined
pub mod Outcome
pub mod Lines
pub mod Tried
pub mod Filled
pub mod Plain

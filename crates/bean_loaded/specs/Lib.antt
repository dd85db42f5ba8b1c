pub mod Limited
pub mod Loaded

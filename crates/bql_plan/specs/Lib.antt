pub mod Labels
pub mod Plan
pub mod Kept
pub mod Laws
pub mod Whole

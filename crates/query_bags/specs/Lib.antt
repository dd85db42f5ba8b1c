pub mod Bag
pub mod Own

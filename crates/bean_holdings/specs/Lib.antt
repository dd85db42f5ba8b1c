pub mod Held
pub mod Inventories
pub mod Holdings
pub mod Parts
pub mod LotsLeft
pub mod Rests
pub mod Takes

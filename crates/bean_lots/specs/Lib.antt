pub mod Lot
pub mod Inventory
pub mod Slots

mod InventoryFacts
mod WidthFacts
pub mod Printable
pub mod WideFacts
pub mod Written
pub mod OwnDecimals
pub mod Filled

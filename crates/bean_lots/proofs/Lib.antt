pub mod LotFacts
pub mod LotOrderFacts
pub mod SlotFacts
pub mod ChangedFacts
pub mod NegativeFacts
pub mod SweepFacts
pub mod InventoryFacts
pub mod Examples

pub mod HoldingFacts
pub mod KeptFacts

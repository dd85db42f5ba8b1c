pub mod DecimalsFacts
pub mod FitFacts
pub mod PartFacts
mod Examples

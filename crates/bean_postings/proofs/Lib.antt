pub mod PriceFacts
pub mod CostPartFacts
pub mod CostFacts
pub mod PostingFacts
pub mod WrittenPostingFacts
pub mod PlainFacts
mod Examples

pub mod ArrangedFacts
pub mod ChainFacts
pub mod ItemFacts
pub mod KeyFacts
pub mod MergingFacts
pub mod PlaceFacts

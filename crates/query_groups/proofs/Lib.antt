pub mod AddingFacts
pub mod TakingFacts
pub mod GroupFacts

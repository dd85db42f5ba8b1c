pub mod TokenFacts

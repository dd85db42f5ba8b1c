pub mod NumberFacts
pub mod CallFacts

pub mod RunFacts
pub mod FrontFacts
pub mod NumberFacts

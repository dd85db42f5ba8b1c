mod NumberFacts
pub mod BoundsFacts

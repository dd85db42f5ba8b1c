pub mod SpanFacts
pub mod MovedFacts
pub mod PlaceFacts
pub mod GivenUpFacts

mod Examples
pub mod NumberFacts
pub mod WideFacts

pub mod FeedFacts
pub mod MarkFacts

pub mod ScopeFacts
pub mod GiftFacts
pub mod MatchFacts
mod Examples

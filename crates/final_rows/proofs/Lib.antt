pub mod RankFacts
pub mod WordFacts
pub mod CodeFacts
pub mod OrderFacts
pub mod NumberFacts
pub mod ShownFacts
mod FrontFacts
pub mod LastFacts
pub mod EnoughFacts
pub mod KeyFacts

mod TableFacts
pub mod UnreadFacts
mod FileFacts
mod PartFacts

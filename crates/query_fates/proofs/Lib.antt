mod FateFacts
mod BatchFileFacts
pub mod UnreadFacts

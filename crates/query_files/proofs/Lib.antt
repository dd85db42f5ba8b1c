pub mod TextFacts
pub mod FileFacts

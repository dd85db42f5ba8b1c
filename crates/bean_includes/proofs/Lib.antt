pub mod IncludesFacts
pub mod NoIncludeFacts

pub mod FoundFacts

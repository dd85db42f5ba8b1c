pub mod ListFacts
mod Examples

pub mod RowFacts
mod PassingFacts
mod CutFacts
pub mod Utf8Facts
pub mod WrittenFacts

pub mod GivenFacts
pub mod OpenFacts
pub mod PopFacts
pub mod FirstFacts
pub mod AlikeFacts
pub mod TextFacts

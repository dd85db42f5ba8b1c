pub mod LengthFacts
pub mod SuffixFacts

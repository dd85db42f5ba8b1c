pub mod SumFacts

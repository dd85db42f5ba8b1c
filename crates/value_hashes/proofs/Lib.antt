pub mod NumberFacts
pub mod BagFacts
pub mod FedFacts

pub mod InPlace
pub mod LotFacts
pub mod HeldFacts
pub mod LotsLeftFacts
pub mod RestFacts
pub mod BoundFacts
pub mod TakesFacts

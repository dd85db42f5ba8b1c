pub mod PoolFacts
pub mod SizeFacts
pub mod FormFacts
mod DepthFacts
mod PairFacts
mod PatchFacts
mod Examples

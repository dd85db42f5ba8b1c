pub mod WholeFacts
pub mod CountFacts
pub mod EntryFacts
pub mod TableFacts
pub mod WeighingFacts
pub mod ScalesFacts
pub mod FillingFacts
pub mod BalanceFacts
pub mod EvenedFacts
pub mod GapFacts
pub mod LackingFacts
pub mod DueFacts
pub mod PrecisionFacts
mod SumsFacts
mod WeightFacts
pub mod LastFacts
pub mod LastEvened

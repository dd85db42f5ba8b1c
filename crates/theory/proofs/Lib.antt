pub mod FormFacts
pub mod RowFacts
pub mod OneReading
pub mod LongestFrontFacts
pub mod ArrangementFacts
pub mod AllFacts
pub mod ArrangedFacts
pub mod CutFacts
pub mod JoinedFacts
pub mod OnceFacts
mod Examples

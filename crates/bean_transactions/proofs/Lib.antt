pub mod OutcomeFacts
pub mod HeldFacts
pub mod TakenFacts
pub mod WithinFacts
pub mod LinedFacts
pub mod CompletedFacts
pub mod FilledFacts
pub mod PlainFacts
pub mod LegFacts
pub mod OneLine
pub mod OneFilling
pub mod OneTrial
mod Examples
pub mod LightFacts
pub mod EachLine
pub mod EachTrial
pub mod LastFacts
pub mod BareFacts

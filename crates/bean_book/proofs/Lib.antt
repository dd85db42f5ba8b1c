mod FaultOrder
pub mod ListFacts
mod PlainFacts
mod ShapedFacts
mod PaddingFacts
mod TakenFacts
pub mod LeftOutFacts
mod LedgerFacts
mod BookFacts
mod FoundFacts

mod ShapeExamples
pub mod MassFacts
pub mod ShapeCases
pub mod FittingFacts
pub mod UnaryFacts
pub mod BinaryFacts
pub mod OrderFacts
pub mod RisingFacts
pub mod GatheringFacts
pub mod BoundFacts
mod ColumnExamples
pub mod FinalRowsFacts
pub mod SameFacts
pub mod ShapedFacts
mod RowExamples

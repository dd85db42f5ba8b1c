pub mod AnswerFacts
pub mod SameFacts
pub mod KeyFacts
pub mod AlignmentFacts
pub mod ShapeFacts
pub mod ValueFacts
pub mod PassingFacts
pub mod ShortFacts
pub mod BoundFacts
pub mod BoundlessFacts
pub mod TypedFacts
pub mod QueryBoundFacts
mod Worked
mod ValueExamples
mod Examples
pub mod PlannedFacts

pub mod KnownFacts
pub mod StepFacts
pub mod OperationFacts

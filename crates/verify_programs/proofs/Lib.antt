pub mod JoinFacts
pub mod LeastFacts
mod ListFacts
mod CauseFacts
pub mod WaitingFacts
pub mod Flow
pub mod StepFacts
pub mod AnswerFacts
pub mod GatheredFacts
pub mod WholeFacts
mod CarriedFacts

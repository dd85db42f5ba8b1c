pub mod LexemeFacts
pub mod TextFacts
pub mod LiteralFacts
pub mod AppliedFacts
pub mod ExactFacts
pub mod ExpressionFacts
pub mod NumberFacts
pub mod PlainFacts
pub mod ValueFacts
pub mod AmountFacts
pub mod MetadataFacts
pub mod MarkFacts
mod Examples

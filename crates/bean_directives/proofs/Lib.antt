pub mod HeadFacts
pub mod WorthFacts
pub mod UndatedFacts
pub mod FirstLineFacts
pub mod PlainHeadFacts
pub mod OneHeadFacts
pub mod OneUndatedFacts
mod Examples
pub mod PayeeFacts

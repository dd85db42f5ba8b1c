pub mod SectionFacts
pub mod ReachFacts
pub mod RunFacts
pub mod CountFacts
pub mod GroupingFacts
pub mod AlikeFacts
pub mod ReadingFacts
pub mod AnswerFacts
pub mod UpgradeFacts
pub mod UpgradeAnswerFacts
pub mod UnreadFacts
pub mod StandFacts
pub mod ShownFacts
mod Examples

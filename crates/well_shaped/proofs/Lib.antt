pub mod FrameFacts
pub mod BelowFacts
pub mod EndFacts
pub mod PlaceFacts
pub mod DepthFacts
pub mod NamedFacts
pub mod HeldFacts
pub mod Examples
mod RefusedExamples
mod LoadFacts
mod SafePlaceFacts
mod GatheringFacts
mod RunningFacts
mod OrderFacts
mod SafeEndFacts
mod StepFacts
mod FileFacts
pub mod SafetyFacts
mod UpgradeShapeFacts
pub mod UpgradeNameFacts
mod FileFieldFacts
mod FileInstructionFacts
mod FileSectionFacts
mod FileGroupFacts
pub mod FileProgramFacts

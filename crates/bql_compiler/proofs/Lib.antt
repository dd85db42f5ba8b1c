pub mod StandsAt
pub mod LaidFacts
pub mod CoreFacts
pub mod CodeSectionFacts
pub mod CodeProgramFacts
pub mod GivesFacts
pub mod CodeFacts
pub mod ConstantFacts
mod OperatorFacts
pub mod LoweredListFacts
mod ExpressionFacts
pub mod TypedFacts
pub mod LoweredReadFacts
pub mod PoolFacts
pub mod StepFacts
pub mod AlignedFacts
pub mod MemberFacts
pub mod LeafFacts
pub mod LoweredFacts
pub mod SchemeListFacts
pub mod QueryFacts
mod GatherFacts
pub mod RowFacts
pub mod ProgramFacts
pub mod CarriedListFacts
pub mod SidedFacts
pub mod RunFacts
pub mod ReadFacts
pub mod InputFacts
pub mod PlainFacts
pub mod SectionFacts
pub mod CarriedFacts
pub mod LowersFacts
pub mod LimitFacts
pub mod RefusalFacts
pub mod NameFacts
mod RootFacts
pub mod PlannedFacts
pub mod FileFacts

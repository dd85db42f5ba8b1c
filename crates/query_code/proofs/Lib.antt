pub mod ByteFormFacts
pub mod WideNumberFacts
pub mod FieldFacts
pub mod TextListFacts
pub mod TextListSearch
pub mod FitsFacts
pub mod QueryFileFacts
pub mod WorkedProgram
pub mod UpgradeFacts
mod Examples

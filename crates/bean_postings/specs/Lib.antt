pub mod CostPart
pub mod Cost
pub mod Price
pub mod Details
pub mod Posting
pub mod WrittenPosting

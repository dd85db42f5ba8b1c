pub mod CodeCause
pub mod Loading
pub mod Answers
pub mod Joining
pub mod Pass
pub mod Passing
pub mod Ending
pub mod Depths

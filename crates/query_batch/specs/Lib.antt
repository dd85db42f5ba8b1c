pub mod BatchCause
pub mod Members
pub mod Batch
pub mod Rounds

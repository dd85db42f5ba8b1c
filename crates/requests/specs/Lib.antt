pub mod Command
pub mod Names
pub mod Compile
pub mod Batch
pub mod Commands

pub mod Total
pub mod BagKey
pub mod Entries
pub mod Kept
pub mod Placed
pub mod Rest
pub mod Listed

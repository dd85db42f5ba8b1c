pub mod Scope
pub mod Matches
pub mod Gifts

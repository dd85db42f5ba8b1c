pub mod Kind
pub mod Lowered
pub mod Listed
pub mod Kept

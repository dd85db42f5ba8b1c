pub mod PlainText
pub mod Metadata
pub mod Extras
pub mod Entry

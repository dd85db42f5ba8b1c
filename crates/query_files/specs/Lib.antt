pub mod TextCause
pub mod Texts
pub mod Files

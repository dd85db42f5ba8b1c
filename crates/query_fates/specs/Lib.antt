pub mod Fates
pub mod Unread

pub mod Kind
pub mod Token
pub mod Tokens

pub mod Lexeme
pub mod Ranged
pub mod Literal
pub mod Exact
pub mod Expression
pub mod Amount
pub mod Metadata
pub mod Mark

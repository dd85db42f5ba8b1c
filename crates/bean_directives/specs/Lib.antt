pub mod Head
pub mod Undated
pub mod SmallPart
pub mod Small
pub mod Payee
pub mod Stretch
pub mod Given

pub mod Core
pub mod Pool
pub mod Code
pub mod Literals
pub mod Kept
pub mod Laws

pub mod VerifierCause
pub mod Patterns
pub mod Checking

pub mod OwnTurns
pub mod Joining
pub mod RoundFacts

pub mod PieceFacts
pub mod TakenFacts

pub mod RefusalFacts
pub mod KeptFront
pub mod PieceFacts

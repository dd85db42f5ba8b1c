pub mod PlanFacts
pub mod LawFacts
pub mod WholeFacts

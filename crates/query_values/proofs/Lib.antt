mod Examples
mod HoldingExamples
pub mod ArithmeticFacts
pub mod OperandFacts
pub mod MembershipFacts
pub mod TotalFacts
pub mod NumberFacts
pub mod NumberOrder
pub mod OrderFacts
pub mod EqualityFacts
pub mod AggregateFacts
pub mod PatternFacts
pub mod ComponentFacts

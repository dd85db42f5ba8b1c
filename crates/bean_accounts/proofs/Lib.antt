pub mod CurrencyFacts
pub mod LogFacts

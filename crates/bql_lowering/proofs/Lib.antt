mod ListFacts
mod CallFacts

mod FileFacts
mod VerdictFacts

-- What a query keeps of itself.
use Rattle.bql_parser.specs.Answer.{query_of}
use Rattle.bql_parser.specs.Small.{IsSmall}
use Rattle.bql_parser.specs.declared.query.Query.{Query}

-- a query, however it was made, is small
abbrev pub QueriesAreSmall : Type 0
QueriesAreSmall = (q : Query) → IsSmall (query_of q)

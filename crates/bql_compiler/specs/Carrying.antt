-- Compiled programs mean what their queries mean.
use Rattle.limits.specs.declared.bounds.Bounds.{Bounds}
use Rattle.bql_parser.specs.Answer.{query_of}
use Rattle.bql_parser.specs.declared.query.Query.{Query}
use Rattle.bql_compiler.specs.Carried.{Carries}
use Rattle.bql_compiler.specs.Program.{parts_of}
use Rattle.bql_types.specs.Typing.{IsTyped}

-- the program of a query that has a type within bounds carries the query
abbrev pub CompiledCarryTheirQueries : Type 0
CompiledCarryTheirQueries = (b : Bounds) (q : Query) → IsTyped b (query_of q)
    → Carries b (parts_of b (query_of q)) (query_of q)

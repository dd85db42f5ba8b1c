-- Compiled programs answer their queries, over ledgers within the bounds.
use Rattle.std.specs.Prelude.{◌≡◌, true, List, All}
use Rattle.limits.specs.declared.bounds.Bounds.{Bounds}
use Rattle.bql_meaning.specs.Answer.{IsAnswer}
use Rattle.bql_parser.specs.Answer.{query_of}
use Rattle.bql_parser.specs.declared.query.Query.{Query}
use Rattle.bql_compiler.specs.Program.{IsTooDeep, parts_of}
use Rattle.bql_types.specs.Typing.{IsTyped}
use Rattle.plain_machine.specs.Answer.{Answer, Answers}
use Rattle.query_code.specs.QueryFile.{file}
use Rattle.query_rows.specs.ColumnShape.{AreBounds}
use Rattle.query_rows.specs.Fits.{fits}
use Rattle.query_rows.specs.Row.{Row}
use Rattle.query_rows.specs.Shaped.{IsShaped}

-- The program of a query that has a type within the bounds, which has a file and whose stack isn't
-- too deep, has an answer over the rows of each ledger within the bounds, and it is the query's.
abbrev pub CompiledAnswerTheirQueries : Type 0
CompiledAnswerTheirQueries =
    (b : Bounds) (q : Query) → AreBounds b → IsTyped b (query_of q) → ¬ IsTooDeep b (query_of q)
    → ∥ file.fits (parts_of b (query_of q)) ∥₁ → (ledger : List Row) → fits b ledger ≡ true
    → All (IsShaped b) ledger
    → (a : Answer) × Answers (parts_of b (query_of q)) ledger a
    × IsAnswer b (query_of q) ledger a.final

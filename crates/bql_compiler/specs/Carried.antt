-- Which programs carry a query: what comes out of them is the query's answer.
use Rattle.std.specs.Prelude.{◌≡◌, List, map}
use Rattle.limits.specs.declared.bounds.Bounds.{Bounds}
use Rattle.bql_meaning.specs.Answer.{IsAnswer}
use Rattle.bql_parser.specs.Asked.{Asked}
use Rattle.plain_machine.specs.Answer.{Answer, Answers}
use Rattle.query_code.specs.declared.program.Parts.{Parts}
use Rattle.query_rows.specs.Row.{Row}
use Rattle.bql_compiler.specs.Program.{target_name}

-- Its columns have the names of the targets, and over each list of rows, where it has an answer, what
-- comes out is what the query answers.
pub record Carries (b : Bounds) (p : Parts) (q : Asked) : Type 0 where
  pub names : p.output.targets ≡ map target_name q.targets
  pub answers : (ledger : List Row) (a : Answer) → Answers p ledger a → IsAnswer b q ledger a.final

-- What the run of a program over a ledger answers.
use Rattle.std.specs.Prelude.{◌≡◌, List}
use Rattle.plain_machine.specs.Answer as plain
use Rattle.plain_machine.specs.Answer.{Answers, groups}
use Rattle.query_answer.specs.declared.answer.Answer.{Answer}
use Rattle.query_code.specs.declared.program.Parts.{Parts}
use Rattle.query_rows.specs.Row.{Row}

-- It is the answer of the plain machine over the rows of the ledger, under the names of the
-- program's targets.
pub record IsRunOf (p : Parts) (ledger : List Row) (answer : Answer) : Type 0 where
  pub plain : plain.Answer
  pub answers : Answers p ledger plain
  pub headers : answer.headers ≡ p.output.targets
  pub rows : answer.rows ≡ plain.final
  pub steps : answer.steps ≡ plain.steps
  pub groups : answer.groups ≡ groups plain

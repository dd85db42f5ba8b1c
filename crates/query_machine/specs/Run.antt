-- A run, as its callers see it.
use Rattle.std.specs.Prelude.{ℕ, List}
use Rattle.posting_table.specs.Ledger.{Ledger}
use Rattle.posting_table.specs.Rows.{rows_of}
use Rattle.query_answer.specs.declared.answer.Answer.{Answer}
use Rattle.query_code.specs.declared.program.Parts.{Parts}
use Rattle.query_rows.specs.Row.{Row}

-- It has made so many steps and can go on, or has had no turn; it is at its end; or memory lacked.
pub data Place : Type 0 where
  At : (steps : ℕ) → Place
  Ended : (answer : Answer) → Place
  Failed : Place

-- a program over a ledger, and where its run stands
pub record Run : Type 0 where
  pub parts : Parts
  pub ledger : Ledger
  pub place : Place

abbrev pub rows_under : Run → List Row
rows_under r = rows_of r.ledger

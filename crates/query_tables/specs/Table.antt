-- The table of what a program answers over a ledger, and of what a query does.
use Rattle.std.specs.Prelude.{◌≡◌, ◌⊎◌, ℕ, true, false, List, map, Result, Ok, Err, Vec}
use Rattle.std.specs.declared.alloc.Global.{Global}
use Rattle.bql_meaning.specs.Answer.{IsAnswer}
use Rattle.bql_parser.specs.Asked.{Asked}
use Rattle.bql_compiler.specs.Carried.{Carries}
use Rattle.bql_compiler.specs.Program.{target_name}
use Rattle.limits.specs.declared.bounds.Bounds.{Bounds}
use Rattle.plain_machine.specs.Answer.{Answer, Answers, IsWithinBudget}
use Rattle.plain_machine.specs.Safety.{RunsSafely}
use Rattle.posting_table.specs.Decimals.{decimals_of}
use Rattle.posting_table.specs.Ledger.{Ledger}
use Rattle.posting_table.specs.Rows.{rows_of}
use Rattle.query_code.specs.Upgrade.{upgraded}
use Rattle.query_code.specs.declared.program.Parts.{Parts}
use Rattle.query_machine.specs.declared.cause.RunCause.{RunCause}
use Rattle.query_machine.specs.declared.cause.RunCause.TheVariants.{OutsideBounds}
use Rattle.query_rows.specs.Fits.{fits}
use Rattle.query_values.specs.declared.value.Value.{Value}
use Rattle.refusals.specs.declared.refusal.Refusal.{Refusal}
use Rattle.refusals.specs.declared.refusal.Refusal.TheVariants.{OutOfMemory, Refused}
use Rattle.table_printer.specs.Table.{table_text}
use Rattle.verified_program.specs.declared.checked.Checked.{Checked}

-- The text is the table of what a query answers over the postings of a ledger.
pub record IsTableOfQuery (b : Bounds) (q : Asked) (l : Ledger) (text : List ℕ) : Type 0 where
  pub rows : List (List Value)
  pub answers : IsAnswer b q (rows_of l) rows
  pub table : text ≡ table_text (map target_name q.targets) rows (decimals_of l.decimals)

-- A program ends over a ledger within its bounds, and the text is the table of its rows: those of
-- the plain machine, which has no fault on the way, never more than so many values on its stack, and
-- makes no more steps than the budget. Where the program was compiled, that is, where it or its
-- upgrade carries a query, the text is the table of what that query answers.
pub record IsTableOf (p : Parts) (depth : ℕ) (l : Ledger) (text : List ℕ) : Type 0 where
  pub within : fits p.bounds (rows_of l) ≡ true
  pub safe : RunsSafely p (rows_of l) depth
  pub answer : Answer
  pub answers : Answers p (rows_of l) answer
  pub brief : IsWithinBudget p (rows_of l) answer
  pub table : text ≡ table_text p.output.targets answer.final (decimals_of l.decimals)
  pub means : (b : Bounds) (q : Asked) → Carries b p q ⊎ Carries b (upgraded p) q
      → IsTableOfQuery b q l text

-- A verified program gives its table over the ledger, unless memory lacks; or the ledger is outside
-- its bounds, and that is told.
abbrev pub Tabulates : Checked → Ledger → Result (Vec ℕ Global) (Refusal RunCause) → Type 0
Tabulates c l (Ok text) = IsTableOf c.program.parts c.depth l text.items
Tabulates c l (Err OutOfMemory) = fits c.program.parts.bounds (rows_of l) ≡ true
Tabulates c l (Err (Refused OutsideBounds)) = fits c.program.parts.bounds (rows_of l) ≡ false

-- a ledger has one table by a program
abbrev pub IsOneTable : Type 0
IsOneTable = (p : Parts) (depth : ℕ) (l : Ledger) (a b : List ℕ) → IsTableOf p depth l a
    → IsTableOf p depth l b → a ≡ b

-- How many values the rows of an answer have.
use Rattle.std.specs.Prelude.{◌≡◌, ℕ, List, length, All}
use Rattle.plain_machine.specs.Answer.{Answer, Answers}
use Rattle.query_code.specs.declared.program.Parts.{Parts}
use Rattle.query_rows.specs.Row.{Row}
use Rattle.query_values.specs.declared.value.Value.{Value}

abbrev pub AreWide : ℕ → List (List Value) → Type 0
AreWide n rows = All (λ row. length row ≡ n) rows

-- those that come out of a program: one for each target
abbrev pub RowsAreAsWideAsTargets : Type 0
RowsAreAsWideAsTargets = (p : Parts) (ledger : List Row) (a : Answer) → Answers p ledger a
    → AreWide (length p.output.targets) a.final

-- What becomes of a program's runs where it is brought to the second version.
use Rattle.std.specs.Prelude.{◌≡◌, ℕ, List, ⊤}
use Rattle.std.specs.List.{AllByRecursion}
use Rattle.limits.specs.declared.bounds.Version.{Version}
use Rattle.query_terms.specs.Column.{numbered, numbered_in}
use Rattle.query_code.specs.Upgrade.{upgraded}
use Rattle.query_code.specs.declared.instruction.Instruction.{Instruction}
use Rattle.query_code.specs.declared.instruction.Instruction.TheVariants.{Push}
use Rattle.query_code.specs.declared.instruction.Push.TheVariants.{LoadColumn}
use Rattle.query_code.specs.declared.program.Parts.{Parts}
use Rattle.query_rows.specs.Row.{Row}
use Rattle.plain_machine.specs.PlainMachine.{stand_after}

-- a column that it loads isn't one that a later schema alone knows
abbrev pub KnowsColumn : Version → Instruction → Type 0
KnowsColumn v (Push (LoadColumn n)) = numbered_in v n ≡ numbered n
KnowsColumn v i = ⊤

-- the columns that a program names are its schema's
pub record NamesItsColumns (p : Parts) : Type 0 where
  pub filter : AllByRecursion (KnowsColumn p.bounds.schema) p.code.filter
  pub row : AllByRecursion (KnowsColumn p.bounds.schema) p.code.row
  pub last : AllByRecursion (KnowsColumn p.bounds.schema) p.code.last

-- it stands where it would, after each step, over all rows: so it has the same answer
abbrev pub UpgradesRunAlike : Type 0
UpgradesRunAlike = (p : Parts) → NamesItsColumns p → (ledger : List Row) (n : ℕ)
    → stand_after (upgraded p) ledger n ≡ stand_after p ledger n

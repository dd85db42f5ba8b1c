-- What holds of a well shaped program that is brought to the second version.
use Rattle.std.specs.Prelude.{◌≡◌, ℕ, List}
use Rattle.plain_machine.specs.PlainMachine.{stand_after}
use Rattle.query_code.specs.QueryFile.{file}
use Rattle.query_code.specs.Upgrade.{upgraded}
use Rattle.query_code.specs.declared.program.Parts.{Parts}
use Rattle.query_rows.specs.Row.{Row}
use Rattle.well_shaped.specs.Program.{IsDepth}

-- it is well shaped, of the same depth
abbrev pub UpgradesAreWellShaped : Type 0
UpgradesAreWellShaped = (p : Parts) (depth : ℕ) → IsDepth p depth → IsDepth (upgraded p) depth

-- where it has a file, over all rows it stands after each step where it did, and so has the same answer
abbrev pub UpgradesRunAlike : Type 0
UpgradesRunAlike = (p : Parts) (depth : ℕ) → file.fits p → IsDepth p depth → (ledger : List Row) (n : ℕ)
    → stand_after (upgraded p) ledger n ≡ stand_after p ledger n

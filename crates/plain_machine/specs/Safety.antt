-- Runs that nothing can stop.
use Rattle.std.specs.Prelude.{ℕ, List}
use Rattle.query_code.specs.declared.program.Parts.{Parts}
use Rattle.query_rows.specs.Row.{Row}
use Rattle.plain_machine.specs.Answer.{NeverFaults}
use Rattle.plain_machine.specs.Depth.{StaysWithin}

-- Over these rows the program has no fault, whatever is done, and never more than so many values on
-- its stack.
pub record RunsSafely (p : Parts) (ledger : List Row) (depth : ℕ) : Type 0 where
  pub never_faults : NeverFaults p ledger
  pub stays_within : StaysWithin p ledger depth

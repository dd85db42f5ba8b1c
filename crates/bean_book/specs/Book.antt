-- The book of a ledger.
use Rattle.std.specs.Prelude.{List}
use Rattle.bean_base.specs.declared.fault.Fault.{Fault}
use Rattle.posting_table.specs.Ledger.{Ledger}

-- its postings with the decimals that its currencies show; and all that is wrong, by file, then by
-- line, then by number, equal ones once
pub record Book : Type 0 where
  pub ledger : Ledger
  pub faults : List Fault

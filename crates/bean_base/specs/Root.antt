-- The roots of accounts, as they are written.
use Rattle.std.specs.Prelude.{ℕ, List, Option, Some, None, codes, if◌then◌else◌}
use Rattle.std.specs.Str.{bytes_eq}
use Rattle.bean_base.specs.declared.roots.Root.{Root}
use Rattle.bean_base.specs.declared.roots.Root.TheVariants.{Assets, Liabilities, Equity, Income}
use Rattle.bean_base.specs.declared.roots.Root.TheVariants.{Expenses}

abbrev pub spelling : Root → List ℕ
spelling Assets = codes "Assets"
spelling Liabilities = codes "Liabilities"
spelling Equity = codes "Equity"
spelling Income = codes "Income"
spelling Expenses = codes "Expenses"

-- the root of that name
abbrev pub root_of : List ℕ → Option Root
root_of name =
    if bytes_eq name (spelling Assets) then Some Assets
    else if bytes_eq name (spelling Liabilities) then Some Liabilities
    else if bytes_eq name (spelling Equity) then Some Equity
    else if bytes_eq name (spelling Income) then Some Income
    else if bytes_eq name (spelling Expenses) then Some Expenses
    else None

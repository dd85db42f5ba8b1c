use Rattle.std.proofs.Common.{◌≡◌, ℕ, List, take}
use Rattle.std.specs.Str.{bytes_eq}
use Rattle.indexmap.specs.IndexSet.{contains}
use Rattle.bean_accounts.specs.Currencies.{is_listed}
use Rattle.bean_accounts.proofs.currencies.CurrencyTable.of.Given as goal

-- the table has those so far
abbrev pub invariant-loop-currency : goal.invariant-loop-currency
invariant-loop-currency l =
    (c : List ℕ) → contains bytes_eq l.table c ≡ is_listed (take l.currency-index l.currencies) c

-- Worked names and numbers of columns.
use Rattle.std.proofs.Common.{◌≡◌, false, Some, None, refl}
use Rattle.std.specs.Prelude.{codes}
use Rattle.limits.specs.declared.bounds.Version.TheVariants.{First}
use Rattle.query_terms.specs.Column.{is_in, named, number, numbered}
use Rattle.query_terms.specs.declared.column.Column.TheVariants.{Accounts, CostNumber, Price}

in_any_letters : named (codes "Cost_NUMBER") ≡ Some CostNumber
in_any_letters = refl

-- the accounts of a transaction have no name in queries
no_name : named (codes "accounts") ≡ None
no_name = refl

in_a_file : number CostNumber ≡ 13
in_a_file = refl

-- a file may name the accounts of a transaction
twenty_one : numbered 21 ≡ Some Accounts
twenty_one = refl

twenty_two : numbered 22 ≡ Some Price
twenty_two = refl

no_column : numbered 23 ≡ None
no_column = refl

-- prices came with the second schema
no_prices : is_in First Price ≡ false
no_prices = refl

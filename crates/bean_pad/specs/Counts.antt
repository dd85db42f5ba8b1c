-- Counts by the numbers of accounts and by currency.
use Rattle.std.specs.Prelude.{ℕ, ◌==◌, ◌&&◌, ℤ, pos, Bool, List, unwrap_or}
use Rattle.std.specs.Map.{lookup}
use Rattle.std.specs.Str.{bytes_eq}
use Rattle.bean_pad.specs.declared.counts.At.{At}

abbrev pub same_at : At → At → Bool
same_at a b = (a.number == b.number) && bytes_eq a.currency b.currency

-- what is added up under numbers of accounts and currencies
abbrev pub Added : Type 0
Added = List (At × ℤ)

-- the count under the number of an account and a currency
abbrev pub count_at : Added → ℕ → List ℕ → ℤ
count_at counts number currency =
    unwrap_or (lookup (same_at (record { number = number; currency = currency })) counts) (pos 0)

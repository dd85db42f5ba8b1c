-- How many decimals each currency shows.
use Rattle.std.specs.Prelude.{ℕ, List, unwrap_or}
use Rattle.std.specs.Coded.{Coded, coded_ℕ, coded_list}
use Rattle.std.specs.Cmp.Lexicographic.{slice_cmp}
use Rattle.std.specs.FinMap.{FinMap, get, code}
use Rattle.std.specs.Ordering.{nat_cmp}

-- a map from the names of currencies
abbrev pub Decimals : Type 0
Decimals = FinMap (slice_cmp nat_cmp) ℕ

abbrev pub decimals_code : Coded Decimals
decimals_code = code (coded_list coded_ℕ) coded_ℕ

-- the decimals of a currency: 0 where none are set
abbrev pub decimals_of : Decimals → List ℕ → ℕ
decimals_of decimals currency = unwrap_or (get decimals currency) 0

-- How sums are kept: that of the first currency by itself.
use Rattle.std.specs.Prelude.{◌≡◌, ℕ, Bool, true, List, [], ◌∷◌, Option, Some, None}
use Rattle.std.specs.Str.{bytes_eq}
use Rattle.bean_interp.specs.Residual.{Weighed}
use Rattle.bean_interp.specs.Sums.{AreNarrow}
use Rattle.bean_interp.specs.declared.sums.First.{First}

abbrev pub sums_in : Option First → List Weighed → List Weighed
sums_in None others = []
sums_in (Some f) others = (f.currency, f.sum) ∷ others

-- there are no others without a first, and none is too wide
abbrev pub AreKept : Option First → List Weighed → Type 0
AreKept None others = others ≡ []
AreKept (Some f) others = AreNarrow ((f.currency, f.sum) ∷ others)

-- whether a currency is the first, or would be
abbrev pub comes_first : Option First → List ℕ → Bool
comes_first None c = true
comes_first (Some f) c = bytes_eq c f.currency

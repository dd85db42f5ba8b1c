-- The currencies that an open lists.
use Rattle.std.specs.Prelude.{◌≡◌, ℕ, Bool, true, false, List, [], ◌∷◌, Option, Some, None, Box}
use Rattle.std.specs.List.{list_any}
use Rattle.std.specs.Str.{bytes_eq}
use Rattle.std.specs.declared.alloc.Global.{Global}
use Rattle.indexmap.specs.IndexSet.{contains}
use Rattle.bean_accounts.specs.declared.currencies.CurrencyTable.{CurrencyTable}

abbrev pub is_listed : List (List ℕ) → List ℕ → Bool
is_listed currencies c = list_any (λ listed. bytes_eq listed c) currencies

abbrev pub is_empty : List (List ℕ) → Bool
is_empty [] = true
is_empty (c ∷ cs) = false

abbrev pub is_in : CurrencyTable → List ℕ → Bool
is_in t c = contains bytes_eq t.currencies c

-- a table, where there is one, tells which are listed
abbrev pub IsTableOf : Option (Box CurrencyTable Global) → List (List ℕ) → Type 0
IsTableOf None currencies = Unit {0}
IsTableOf (Some t) currencies = (c : List ℕ) → is_in t.value c ≡ is_listed currencies c

-- What is known of an account.
use Rattle.std.specs.Prelude.{ℕ, Bool, true, false, ◌||◌, List, [], ◌∷◌, Option, Some, None}
use Rattle.std.specs.Prelude.{unwrap_or, if◌then◌else◌}
use Rattle.std.specs.Option.{is_some, option_map}
use Rattle.std.specs.Str.{bytes_eq}
use Rattle.bean_accounts.specs.Currencies.{is_empty, is_listed}
use Rattle.bean_accounts.specs.declared.life.Life.{Life}
use Rattle.bean_accounts.specs.declared.step.Step.{Step}
use Rattle.bean_accounts.specs.declared.step.Step.TheVariants as step

abbrev pub opened : List (List ℕ) → Life
opened currencies = record { currencies = currencies; is_closed = false }

abbrev pub closed : Life → Life
closed l = record { currencies = l.currencies; is_closed = true }

-- what is known of an account by the steps so far, the latest of which stands first: nothing until
-- it is opened; its first open says which currencies it may hold, and a later close closes it
abbrev pub life : List ℕ → List Step → Option Life
life a [] = None
life a (step.Open o currencies ∷ past) =
    if bytes_eq o a then Some (unwrap_or (life a past) (opened currencies)) else life a past
life a (step.Close c ∷ past) =
    if bytes_eq c a then option_map closed (life a past) else life a past

abbrev pub is_opened : Option Life → Bool
is_opened o = is_some o

abbrev pub is_closed : Option Life → Bool
is_closed None = false
is_closed (Some l) = l.is_closed

-- all currencies where none is listed
abbrev pub allows : Life → List ℕ → Bool
allows l c = is_empty l.currencies || is_listed l.currencies c

abbrev pub may_hold : Option Life → List ℕ → Bool
may_hold None c = true
may_hold (Some l) c = allows l c

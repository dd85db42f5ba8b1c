-- What is kept of accounts.
use Rattle.std.specs.Prelude.{◌≡◌, ℕ, List, Option}
use Rattle.std.specs.Str.{bytes_eq}
use Rattle.indexmap.specs.IndexMap.{get}
use Rattle.bean_accounts.specs.Life.{life}
use Rattle.bean_accounts.specs.declared.accounts.Accounts.{Accounts}
use Rattle.bean_accounts.specs.declared.life.Life.{Life}
use Rattle.bean_accounts.specs.declared.step.Step.{Step}

abbrev pub life_in : Accounts → List ℕ → Option Life
life_in h a = get bytes_eq h.lives a

-- of each account what is known by the steps so far
pub record IsKept (past : List Step) (h : Accounts) : Type 0 where
  pub each : (a : List ℕ) → life_in h a ≡ life a past

-- Counts by account and currency.
use Rattle.std.specs.Prelude.{◌≡◌, ℕ, ◌<◌, ◌^◌, ℤ, pos, List, length}
use Rattle.std.specs.Int.RustNames.{unsigned_abs}
use Rattle.std.specs.Option.{option_map_or}
use Rattle.bean_pad.specs.Counts.{Added, count_at}
use Rattle.bean_pad.specs.Tree.{number_of}
use Rattle.bean_pad.specs.declared.tree.Below.{Below}

-- Accounts by number, and what is added up under their numbers.
pub record Entries : Type 0 where
  pub nodes : List Below
  pub counts : Added

-- nothing is added up under the number of no account
abbrev pub HasNoOthers : List Below → Added → Type 0
HasNoOthers nodes counts =
    (number : ℕ) (currency : List ℕ) → length nodes < number
    → count_at counts number currency ≡ pos 0

-- the sum under an account and a currency
abbrev pub entry_at : Entries → List ℕ → List ℕ → ℤ
entry_at t account currency =
    option_map_or (λ number. count_at t.counts number currency) (number_of t.nodes account) (pos 0)

-- far from the machine's bounds
abbrev pub IsFar : Entries → Type 0
IsFar t = (account currency : List ℕ) → unsigned_abs (entry_at t account currency) < 2 ^ 126

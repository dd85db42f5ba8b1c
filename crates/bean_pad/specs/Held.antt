-- What postings add to accounts, and what accounts hold by it.
use Rattle.std.specs.Prelude.{ℕ, suc, ℤ, pos, ◌+ℤ◌, ◌&&◌, ◌||◌, Bool, List, [], ◌∷◌, ◌++◌, filter}
use Rattle.std.specs.Prelude.{length, take}
use Rattle.std.specs.Str.{bytes_eq}
use Rattle.bean_base.specs.Character.{colon}
use Rattle.bean_base.specs.Counts.{at_8}
use Rattle.bean_base.specs.declared.amounts.Amount.{Amount}
use Rattle.bean_pad.specs.declared.step.Step.{Step}
use Rattle.bean_pad.specs.declared.step.Step.TheVariants as step

-- so much of a currency that is added to an account, as a count of 10^-8
pub record Units : Type 0 where
  pub account : List ℕ
  pub currency : List ℕ
  pub count : ℤ

-- what a posting adds
abbrev pub units_of : List ℕ → Amount → Units
units_of account a = record { account = account; currency = a.currency; count = at_8 a.number }

-- the name goes on behind that of the account, with a colon
abbrev pub is_below : List ℕ → List ℕ → Bool
is_below account name = bytes_eq (take (suc (length account)) name) (account ++ colon ∷ [])

-- the name is that of the account or of one below it
abbrev pub is_within : List ℕ → List ℕ → Bool
is_within account name = bytes_eq name account || is_below account name

abbrev pub is_of : List ℕ → List ℕ → Units → Bool
is_of account currency u = is_within account u.account && bytes_eq u.currency currency

abbrev pub total : List Units → ℤ
total [] = pos 0
total (u ∷ us) = total us +ℤ u.count

-- what an account and those below it hold of a currency
abbrev pub held : List Units → List ℕ → List ℕ → ℤ
held us account currency = total (filter (is_of account currency) us)

-- what the postings of written transactions add, of all steps so far; here and everywhere the
-- latest step stands first
abbrev pub written : List Step → List Units
written [] = []
written (step.Posting p u ∷ past) = units_of p u ∷ written past
written (step.Pad p day at ∷ past) = written past
written (step.Balance b at cost ∷ past) = written past

-- The pad that waits for a balance, by what stands between the two.
use Rattle.std.specs.Prelude.{◌≡◌, ℕ, Bool, false, List, ◌∷◌, ◌++◌}
use Rattle.std.specs.List.{list_any}
use Rattle.std.specs.Str.{bytes_eq}
use Rattle.bean_base.specs.declared.days.Day.{Day}
use Rattle.bean_base.specs.declared.span.Place.{Place}
use Rattle.bean_pad.specs.Note.{is_on, pads_in}
use Rattle.bean_directives.specs.declared.accounts.Pad.{Pad}
use Rattle.bean_pad.specs.declared.step.Step.{Step}
use Rattle.bean_pad.specs.declared.step.Step.TheVariants as step

-- a pad on the account, or a balance on it in the currency
abbrev pub is_between : List ℕ → List ℕ → Step → Bool
is_between account currency (step.Posting p u) = false
is_between account currency (step.Pad p day at) = bytes_eq p.account account
is_between account currency (step.Balance b at cost) = is_on account currency b

-- of the steps before a balance one is a pad of that number on the account, and neither a pad on
-- the account nor a balance on it in the currency stands after that pad
pub record IsWaiting (past : List Step) (account currency : List ℕ) (number : ℕ) : Type 0 where
  pub later : List Step
  pub pad : Pad
  pub day : Day
  pub place : Place
  pub earlier : List Step
  pub split : past ≡ later ++ step.Pad pad day place ∷ earlier
  pub account_is : pad.account ≡ account
  pub number_is : number ≡ pads_in earlier
  pub none : list_any (is_between account currency) later ≡ false

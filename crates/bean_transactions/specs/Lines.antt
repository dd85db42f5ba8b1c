-- What the program keeps of a transaction's lines, and of its setting.
use Rattle.std.specs.Prelude.{◌≡◌, ◌≤◌, ℕ, Bool, true, false, List, ◌++◌, Result, Ok}
use Rattle.std.specs.Prelude.{length, take}
use Rattle.bean_postings.specs.declared.cost.Cost.{Cost}
use Rattle.bean_postings.specs.declared.cost.Cost.TheVariants as cost
use Rattle.bean_transactions.specs.Held.{takes_in}
use Rattle.bean_holdings.specs.Holdings.{AreHeld}
use Rattle.bean_holdings.specs.Takes.{AreWithin, HasTaken}
use Rattle.bean_transactions.specs.Lined.{Setting}
use Rattle.bean_accounts.specs.Methods.{method_in}
use Rattle.bean_holdings.specs.declared.holdings.Holdings.{Holdings}
use Rattle.bean_transactions.specs.declared.line.Line.{Line}
use Rattle.bean_transactions.specs.declared.lines.Lines.{Lines}
use Rattle.bean_accounts.specs.declared.methods.Methods.{Methods}
use Rattle.bean_transactions.specs.declared.setting.Head.{Head}
use Rattle.bean_transactions.specs.declared.stop.LineFault.{LineFault}

-- what was added up are the takes among the first lines, and those of all lines are there to be
-- taken
pub record IsKeeping (h : Holdings) (ls : Lines) : Type 0 where
  pub few : ls.noted ≤ length ls.lines.items
  pub noted : HasTaken h (takes_in (take ls.noted ls.lines.items)) ls.takes
  pub within : AreWithin h (takes_in ls.lines.items)

-- the lines with new ones behind them, which are such
abbrev pub Adds : (Result (List Line) LineFault → Type 0) → List Line → List Line → Type 0
Adds P ls ms = (new : List Line) × P (Ok new) × (ms ≡ ls ++ new)

-- a transaction's setting as the program has it
pub record IsSettled (s : Setting) (h : Holdings) (ms : Methods) (head : Head) : Type 0 where
  pub held : AreHeld s.before h
  pub methods : (a : List ℕ) → s.method_of a ≡ method_in ms a
  pub head_is : s.head ≡ head

-- a cost in braces
abbrev pub is_lot : Cost → Bool
is_lot cost.Absent = false
is_lot (cost.Lot parts) = true
is_lot cost.OutsideProfile = false

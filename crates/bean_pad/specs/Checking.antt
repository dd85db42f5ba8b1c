-- What is kept while balances are checked.
use Rattle.std.specs.Prelude.{◌≡◌, ◌+◌, ◌*◌, ◌≤◌, List, [], drop}
use Rattle.bean_base.specs.declared.fault.Fault.{Fault}
use Rattle.bean_pad.specs.Sums.{AreSmall, Holds}
use Rattle.bean_pad.specs.Trail.{fault_with, notes_in, padded_on, pads_on}
use Rattle.bean_pad.specs.declared.check.Checker.{Checker}
use Rattle.bean_pad.specs.declared.check.Passed.{Passed}
use Rattle.bean_pad.specs.declared.check.Passed.TheVariants as passed
use Rattle.bean_pad.specs.declared.note.NotedPad.{NotedPad}

-- these were passed, the latest of which stands first
pub record Checks (ps : List NotedPad) (ts : List Passed) (c : Checker) : Type 0 where
  pub holds : Holds (padded_on ps ts) c.inserted
  pub pads : c.pads ≡ pads_on ts

-- so few notes can't make a sum great
pub record HasRoom (ps : List NotedPad) (c : Checker) : Type 0 where
  pub small : AreSmall c.inserted
  pub additions : c.inserted.additions + 2 * notes_in (drop c.pads ps) ≤ 2 * notes_in ps

-- the fault of one that is passed behind these
abbrev pub found_at : List NotedPad → List Passed → Passed → List Fault
found_at ps ts passed.Pad = []
found_at ps ts (passed.Balance c) = fault_with (padded_on ps ts) c

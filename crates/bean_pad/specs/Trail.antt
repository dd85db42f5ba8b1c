-- The second way through a ledger, by its pads and balances alone: each balance keeps by how much
-- what is written falls short of it.
use Rattle.std.specs.Prelude.{ℕ, suc, ◌+◌, ◌<◌, ◌^◌, ◌-ℤ◌, Bool, List, [], ◌∷◌, ◌++◌, length}
use Rattle.std.specs.Prelude.{if◌then◌else◌}
use Rattle.std.specs.Int.RustNames.{unsigned_abs}
use Rattle.std.specs.List.{AllByRecursion}
use Rattle.bean_base.specs.declared.fault.Fault.{Fault}
use Rattle.bean_base.specs.declared.fault.FaultKind.TheVariants.{BalanceFails}
use Rattle.bean_base.specs.declared.span.Place.{Place}
use Rattle.bean_base.specs.Counts.{at_8}
use Rattle.bean_pad.specs.Held.{Units, held, written}
use Rattle.bean_pad.specs.Standing.{fault_at, inserted_at}
use Rattle.bean_pad.specs.Tolerance.{is_out, tolerance_of}
use Rattle.bean_pad.specs.declared.check.Check.{Check}
use Rattle.bean_pad.specs.declared.check.Passed.{Passed}
use Rattle.bean_pad.specs.declared.check.Passed.TheVariants as passed
use Rattle.bean_pad.specs.declared.note.NotedPad.{NotedPad}
use Rattle.bean_directives.specs.declared.numbers.Balance.{Balance}
use Rattle.bean_pad.specs.declared.step.Step.{Step}
use Rattle.bean_pad.specs.declared.step.Step.TheVariants as step

abbrev pub check_of : List Step → Balance → Place → Check
check_of past b at = record {
  account = b.account;
  currency = b.currency;
  short = at_8 b.number -ℤ held (written past) b.account b.currency;
  tolerance = tolerance_of b;
  place = at;
}

-- the latest first
abbrev pub trail_of : List Step → List Passed
trail_of [] = []
trail_of (step.Posting p u ∷ past) = trail_of past
trail_of (step.Pad p day at ∷ past) = passed.Pad ∷ trail_of past
trail_of (step.Balance b at cost ∷ past) = passed.Balance (check_of past b at) ∷ trail_of past

abbrev pub pads_on : List Passed → ℕ
pads_on [] = 0
pads_on (passed.Pad ∷ ts) = suc (pads_on ts)
pads_on (passed.Balance c ∷ ts) = pads_on ts

-- what the paddings of these pads add
abbrev pub padded_on : List NotedPad → List Passed → List Units
padded_on ps [] = []
padded_on ps (passed.Pad ∷ ts) = inserted_at ps (pads_on ts) (padded_on ps ts)
padded_on ps (passed.Balance c ∷ ts) = padded_on ps ts

-- whether a balance fails where paddings add so much before it
abbrev pub fails_with : List Units → Check → Bool
fails_with us c = is_out (c.short -ℤ held us c.account c.currency) c.tolerance

abbrev pub fault_with : List Units → Check → List Fault
fault_with us c = if fails_with us c then fault_at BalanceFails c.place ∷ [] else []

abbrev pub failing_on : List NotedPad → List Passed → List Fault
failing_on ps [] = []
failing_on ps (passed.Pad ∷ ts) = failing_on ps ts
failing_on ps (passed.Balance c ∷ ts) = failing_on ps ts ++ fault_with (padded_on ps ts) c

-- ---- bounds

-- how many notes pads have together
abbrev pub notes_in : List NotedPad → ℕ
notes_in [] = 0
notes_in (p ∷ ps) = length p.notes + notes_in ps

abbrev pub IsNear : Passed → Type 0
IsNear passed.Pad = Unit {0}
IsNear (passed.Balance c) = (unsigned_abs c.short < 2 ^ 120) × (unsigned_abs c.tolerance < 10 ^ 20)

abbrev pub AreNear : List Passed → Type 0
AreNear ts = AllByRecursion IsNear ts

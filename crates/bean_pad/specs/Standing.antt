-- What accounts hold once all paddings stand, each directly behind its pad.
use Rattle.std.specs.Prelude.{ℕ, zero, suc, ℤ, neg_ℤ, ◌-ℤ◌, Bool, List, [], ◌∷◌, ◌++◌}
use Rattle.std.specs.Prelude.{if◌then◌else◌}
use Rattle.std.specs.List.{flat_map}
use Rattle.bean_base.specs.declared.fault.Fault.{Fault}
use Rattle.bean_base.specs.declared.fault.FaultKind.{FaultKind}
use Rattle.bean_base.specs.declared.fault.FaultKind.TheVariants.{TooWide, BalanceFails, UnusedPad}
use Rattle.bean_base.specs.declared.fault.FaultKind.TheVariants.{PadAtCost}
use Rattle.bean_base.specs.declared.span.Place.{Place}
use Rattle.bean_base.specs.Counts.{at_8}
use Rattle.bean_pad.specs.Held.{Units, held, units_of}
use Rattle.bean_pad.specs.Note.{pads_in}
use Rattle.bean_pad.specs.Tolerance.{is_out, tolerance_of}
use Rattle.bean_pad.specs.declared.note.Note.{Note}
use Rattle.bean_pad.specs.declared.note.NotedPad.{NotedPad}
use Rattle.bean_pad.specs.declared.note.Outcome.{Outcome}
use Rattle.bean_pad.specs.declared.note.Outcome.TheVariants as outcome
use Rattle.bean_directives.specs.declared.numbers.Balance.{Balance}
use Rattle.bean_directives.specs.declared.accounts.Pad.{Pad}
use Rattle.bean_pad.specs.declared.step.Step.{Step}
use Rattle.bean_pad.specs.declared.step.Step.TheVariants as step

abbrev pub units : List ℕ → List ℕ → ℤ → Units
units account currency count = record { account = account; currency = currency; count = count }

-- a padding: first the difference to the account, then minus it to the source
abbrev pub inserted : Pad → List ℕ → Outcome → List Units → List Units
inserted p currency (outcome.Padding n) us =
    units p.source currency (neg_ℤ (at_8 n)) ∷ units p.account currency (at_8 n) ∷ us
inserted p currency outcome.AtCost us = us
inserted p currency outcome.TooWide us = us

-- the paddings of a pad, in the order of their balances
abbrev pub all_inserted : Pad → List Note → List Units → List Units
all_inserted p [] us = us
all_inserted p (n ∷ ns) us = all_inserted p ns (inserted p n.currency n.outcome us)

-- those of the pad of that number
abbrev pub inserted_at : List NotedPad → ℕ → List Units → List Units
inserted_at [] k us = us
inserted_at (p ∷ ps) zero us = all_inserted p.pad p.notes us
inserted_at (p ∷ ps) (suc k) us = inserted_at ps k us

-- what all postings add, those of written transactions and of these pads' paddings
abbrev pub standing : List NotedPad → List Step → List Units
standing ps [] = []
standing ps (step.Posting p u ∷ past) = units_of p u ∷ standing ps past
standing ps (step.Pad p day at ∷ past) = inserted_at ps (pads_in past) (standing ps past)
standing ps (step.Balance b at cost ∷ past) = standing ps past

-- ---- faults

abbrev pub fault_at : FaultKind → Place → Fault
fault_at kind at = record { kind = kind; place = at }

-- at a pad
abbrev pub faults_of_outcome : Place → Outcome → List Fault
faults_of_outcome at (outcome.Padding n) = []
faults_of_outcome at outcome.AtCost = fault_at PadAtCost at ∷ []
faults_of_outcome at outcome.TooWide = fault_at TooWide at ∷ []

abbrev pub faults_of_note : Place → Note → List Fault
faults_of_note at n = faults_of_outcome at n.outcome

-- a pad that nothing came of is unused
abbrev pub faults_by : Place → List Note → List Fault
faults_by at [] = fault_at UnusedPad at ∷ []
faults_by at (n ∷ ns) = flat_map (faults_of_note at) (n ∷ ns)

abbrev pub faults_of_pad : NotedPad → List Fault
faults_of_pad p = faults_by p.place p.notes

-- whether a balance fails where these units stand before it
abbrev pub fails : List Units → Balance → Bool
fails us b = is_out (at_8 b.number -ℤ held us b.account b.currency) (tolerance_of b)

-- the faults of balances, in their order
abbrev pub failing : List NotedPad → List Step → List Fault
failing ps [] = []
failing ps (step.Posting p u ∷ past) = failing ps past
failing ps (step.Pad p day at ∷ past) = failing ps past
failing ps (step.Balance b at cost ∷ past) =
    failing ps past ++ (if fails (standing ps past) b then
    fault_at BalanceFails at ∷ [] else [])

-- The faults of what comes behind the steps so far, the latest of which stands first.
use Rattle.std.specs.Prelude.{ℕ, Bool, not, ◌&&◌, List, [], ◌∷◌, ◌++◌, map, Option, Some, None}
use Rattle.std.specs.Prelude.{false, if◌then◌else◌}
use Rattle.std.specs.Option.{is_some}
use Rattle.bean_base.specs.declared.fault.Fault.{Fault}
use Rattle.bean_base.specs.declared.fault.FaultKind.{FaultKind}
use Rattle.bean_base.specs.declared.fault.FaultKind.TheVariants as kind
use Rattle.bean_base.specs.declared.span.Place.{Place}
use Rattle.bean_accounts.specs.Life.{is_closed, is_opened, life, may_hold}
use Rattle.bean_accounts.specs.Method.{method_named}
use Rattle.bean_accounts.specs.declared.step.Step.{Step}

abbrev pub fault_at : Place → FaultKind → Fault
fault_at at k = record { kind = k; place = at }

abbrev pub faults_at : Place → List FaultKind → List Fault
faults_at at ks = map (fault_at at) ks

abbrev pub kind_if : Bool → FaultKind → List FaultKind
kind_if b k = if b then k ∷ [] else []

-- F6 not opened, F7 closed, F8 of no listed currency
abbrev pub of_posting : List ℕ → List ℕ → List Step → List FaultKind
of_posting a currency past =
    kind_if (not (is_opened (life a past))) kind.AccountNotOpen
    ++ (kind_if (is_closed (life a past)) kind.AccountClosed
    ++ kind_if (not (may_hold (life a past) currency)) kind.CurrencyNotAllowed)

-- F6 of a pad or a balance
abbrev pub of_use : List ℕ → List Step → List FaultKind
of_use a past = kind_if (not (is_opened (life a past))) kind.AccountNotOpen

-- a name is given that is no method's
abbrev pub is_unknown : Option (List ℕ) → Bool
is_unknown None = false
is_unknown (Some name) = not (is_some (method_named name))

-- F9 where it was opened before, else F23
abbrev pub of_open : List ℕ → Option (List ℕ) → List Step → List FaultKind
of_open a method past =
    if is_opened (life a past) then kind.OpenedTwice ∷ []
    else kind_if (is_unknown method) kind.UnknownMethod

-- F10 where it isn't open
abbrev pub of_close : List ℕ → List Step → List FaultKind
of_close a past =
    kind_if (not (is_opened (life a past) && not (is_closed (life a past)))) kind.ClosedButNotOpen

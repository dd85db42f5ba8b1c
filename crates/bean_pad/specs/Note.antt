-- What comes of pads: in each currency the first balance on a pad's account, up to the next pad on
-- it, uses the pad up.
use Rattle.std.specs.Prelude.{ℕ, zero, suc, ◌<◌, ℤ, pos, ◌+ℤ◌, ◌-ℤ◌, ◌&&◌, Bool, List, [], ◌∷◌}
use Rattle.std.specs.Prelude.{◌++◌, Option, None, Some, if◌then◌else◌}
use Rattle.std.specs.Str.{bytes_eq}
use Rattle.bean_base.specs.Counts.{at_8}
use Rattle.bean_pad.specs.Held.{held, written}
use Rattle.bean_pad.specs.Outcome as outcomes
use Rattle.bean_pad.specs.Outcome.{outcome_of}
use Rattle.bean_pad.specs.Tolerance.{is_out, tolerance_of}
use Rattle.bean_pad.specs.declared.note.Note.{Note}
use Rattle.bean_pad.specs.declared.note.NotedPad.{NotedPad}
use Rattle.bean_directives.specs.declared.numbers.Balance.{Balance}
use Rattle.bean_pad.specs.declared.step.Step.{Step}
use Rattle.bean_pad.specs.declared.step.Step.TheVariants as step

-- the pads are numbered from 0
abbrev pub pads_in : List Step → ℕ
pads_in [] = 0
pads_in (step.Posting p u ∷ past) = pads_in past
pads_in (step.Pad p day at ∷ past) = suc (pads_in past)
pads_in (step.Balance b at cost ∷ past) = pads_in past

abbrev pub is_on : List ℕ → List ℕ → Balance → Bool
is_on account currency b = bytes_eq b.account account && bytes_eq b.currency currency

-- the pad that waits for a balance on the account in the currency: the latest one on the account,
-- unless such a balance stands after it
abbrev pub waiting : List Step → List ℕ → List ℕ → Option ℕ
waiting [] account currency = None
waiting (step.Posting p u ∷ past) account currency = waiting past account currency
waiting (step.Pad p day at ∷ past) account currency =
    if bytes_eq p.account account then Some (pads_in past) else waiting past account currency
waiting (step.Balance b at cost ∷ past) account currency =
    if is_on account currency b then None else waiting past account currency

-- what comes of a balance that is out of tolerance, off by so much
abbrev pub note_of : ℤ → Balance → Bool → Note
note_of difference b is_at_cost =
    record { currency = b.currency; outcome = outcome_of difference is_at_cost }

-- what comes of a balance that is off by so much, with the number of the pad that waits for it:
-- nothing where none waits, or within its tolerance
abbrev pub noted_of : Option ℕ → ℤ → Balance → Bool → Option (ℕ × Note)
noted_of None difference b is_at_cost = None
noted_of (Some pad) difference b is_at_cost =
    if is_out difference (tolerance_of b) then Some (pad, note_of difference b is_at_cost) else None

-- what is added to the account of the pad
abbrev pub count_in : Option (ℕ × Note) → ℤ
count_in None = pos 0
count_in (Some noted) = outcomes.count_in noted.1.outcome

-- a balance's number less what its account and those below it hold by written transactions, and
-- less what was padded on the account
abbrev pub difference_with : List Step → ℤ → Balance → ℤ
difference_with past padded b = at_8 b.number -ℤ held (written past) b.account b.currency -ℤ padded

-- what the paddings of the account's own pads add to it
abbrev pub padded : List Step → List ℕ → List ℕ → ℤ
padded [] account currency = pos 0
padded (step.Posting p u ∷ past) account currency = padded past account currency
padded (step.Pad p day at ∷ past) account currency = padded past account currency
padded (step.Balance b at cost ∷ past) account currency =
    if is_on account currency b
    then padded past account currency
    +ℤ count_in
    (noted_of (waiting past b.account b.currency)
    (difference_with past (padded past b.account b.currency) b) b cost)
    else padded past account currency

abbrev pub difference : List Step → Balance → ℤ
difference past b = difference_with past (padded past b.account b.currency) b

-- what comes of a balance, whose account holds a lot of the currency or not
abbrev pub noted : List Step → Balance → Bool → Option (ℕ × Note)
noted past b is_at_cost =
    noted_of (waiting past b.account b.currency) (difference past b) b is_at_cost

abbrev pub with_note : NotedPad → Note → NotedPad
with_note p note = record p { notes = p.notes ++ note ∷ [] }

-- with a note more at the pad of that number
abbrev pub noted_at : ℕ → Note → List NotedPad → List NotedPad
noted_at k note [] = []
noted_at zero note (p ∷ ps) = with_note p note ∷ ps
noted_at (suc k) note (p ∷ ps) = p ∷ noted_at k note ps

abbrev pub with_noted : Option (ℕ × Note) → List NotedPad → List NotedPad
with_noted None ps = ps
with_noted (Some noted) ps = noted_at noted.0 noted.1 ps

-- the pads in their order, each with what comes of it in the order of the balances
abbrev pub noted_pads : List Step → List NotedPad
noted_pads [] = []
noted_pads (step.Posting p u ∷ past) = noted_pads past
noted_pads (step.Pad p day at ∷ past) =
    noted_pads past ++ record { pad = p; day = day; place = at; notes = [] } ∷ []
noted_pads (step.Balance b at cost ∷ past) = with_noted (noted past b cost) (noted_pads past)

-- ---- numbers of pads

abbrev pub IsBelow : ℕ → Option ℕ → Type 0
IsBelow n None = Unit {0}
IsBelow n (Some pad) = pad < n

abbrev pub IsAmong : ℕ → Option (ℕ × Note) → Type 0
IsAmong n None = Unit {0}
IsAmong n (Some noted) = noted.0 < n

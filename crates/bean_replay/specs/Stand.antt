-- What was booked so far.
use Rattle.std.specs.Prelude.{◌<◌, ℕ, ◌≡◌, not, List, [], ◌∷◌, ◌++◌, map, reverse, slice_get}
use Rattle.std.specs.Prelude.{Option}
use Rattle.std.specs.Prelude.{Some, None, Result, Ok, Err, length}
use Rattle.std.specs.List.{flat_map}
use Rattle.limits.specs.declared.counts.TheConstants.{MOST_POSTINGS}
use Rattle.bean_accounts.specs.Faults.{faults_at, kind_if, of_close, of_open, of_posting, of_use}
use Rattle.bean_accounts.specs.declared.step.Step as lives
use Rattle.bean_accounts.specs.declared.step.Step.TheVariants as life
use Rattle.bean_base.specs.declared.fault.Fault.{Fault}
use Rattle.bean_base.specs.declared.fault.FaultKind.TheVariants as kinds
use Rattle.bean_base.specs.declared.span.Place.{Place}
use Rattle.bean_postings.specs.declared.posting.Posting.{Posting}
use Rattle.bean_directives.specs.declared.directive.Directive.{Directive}
use Rattle.bean_directives.specs.declared.directive.DirectiveKind.{DirectiveKind}
use Rattle.bean_directives.specs.declared.directive.DirectiveKind.TheVariants as kind
use Rattle.bean_directives.specs.declared.transaction.Transaction.{Transaction}
use Rattle.bean_interp.specs.Balance.{is_balanced}
use Rattle.bean_loaded.specs.declared.placed.Placed.{Placed}
use Rattle.bean_lots.specs.Inventory.{has_lot}
use Rattle.bean_reductions.specs.declared.reduction.Method.{Method}
use Rattle.bean_pad.specs.declared.step.Step.{Step}
use Rattle.bean_pad.specs.declared.step.Step.TheVariants as step
use Rattle.bean_holdings.specs.Held.{held}
use Rattle.bean_transactions.specs.Lined.{Setting}
use Rattle.bean_transactions.specs.Tried.{Tries, booked_legs}
use Rattle.bean_holdings.specs.declared.posted.Posted.{Posted}
use Rattle.bean_transactions.specs.declared.stop.LineFault.{LineFault}
use Rattle.bean_replay.specs.Draft.{Draft}
use Rattle.bean_replay.specs.Draft as draft
use Rattle.bean_replay.specs.declared.written.WrittenParts.{WrittenParts as Written}

-- what is booked, in the order of the directives; what pads and balances see, the latest first; and
-- the faults
pub record Stand : Type 0 where
  pub drafts : List Draft
  pub steps : List Step
  pub faults : List Fault

abbrev pub start : Stand
start = record { drafts = []; steps = []; faults = [] }

-- the booked postings, in their order

abbrev pub postings_in : Draft → List Posted
postings_in (draft.Transaction k) = k.postings
postings_in draft.Pad = []

abbrev pub postings_of : List Draft → List Posted
postings_of ds = flat_map postings_in ds

-- ---- accounts

-- what happens to accounts
abbrev pub account_step : DirectiveKind → List lives.Step
account_step (kind.Open o) = life.Open o.account o.currencies ∷ []
account_step (kind.Close c) = life.Close c.account ∷ []
account_step other = []

-- of directives the latest of which stands first
abbrev pub account_steps : List (Placed Directive) → List lives.Step
account_steps past = flat_map (λ d. account_step d.item.kind) past

abbrev pub place_of : Placed Directive → Place
place_of d = record { file = d.file; line = d.item.line }

-- ---- transactions

-- the place of a written posting, and the transaction's where there is none
abbrev pub place_in : Place → Option Posting → Place
place_in at None = at
place_in at (Some p) = record at { line = p.details.line }

-- F6, F7 and F8 of a booked posting, at the written one
abbrev pub posted_faults : List lives.Step → Place → List Posting → Posted → List Fault
posted_faults past at ps p =
    faults_at (place_in at (slice_get ps p.written)) (of_posting p.account p.units.currency past)

-- F18 where it doesn't balance; then those of each booked posting
abbrev pub kept_faults : List (Placed Directive) → Place → List Posting → List Posted → List Fault
kept_faults past at ps posted =
    faults_at at (kind_if (not (is_balanced (booked_legs ps posted))) kinds.Unbalanced)
    ++ flat_map (posted_faults (account_steps past) at ps) posted

-- what pads and balances see of a booked posting
abbrev pub posting_step : Posted → Step
posting_step p = step.Posting p.account p.units

-- what they see of postings, the latest first
abbrev pub steps_of_postings : List Posted → List Step
steps_of_postings posted = reverse (map posting_step posted)

abbrev pub with_faults : Stand → List Fault → Stand
with_faults st fs = record st { faults = st.faults ++ fs }

-- a transaction that is written in a directive
abbrev pub written_in : Placed Directive → Transaction → Written
written_in d t = record {
  day = d.item.day;
  place = place_of d;
  metadata = d.item.metadata;
  transaction = t;
}

-- behind a transaction that is kept stands one booking more; one that is dropped leaves its fault
abbrev pub after_trial : List (Placed Directive) → Stand → Written → Result (List Posted) LineFault
    → Stand
after_trial past st w (Ok posted) = record {
  drafts = st.drafts ++ draft.Transaction (record { written = w; postings = posted }) ∷ [];
  steps = steps_of_postings posted ++ st.steps;
  faults = st.faults ++ kept_faults past w.place w.transaction.postings posted;
}
after_trial past st w (Err f) =
    with_faults st (record { kind = f.kind; place = record w.place { line = f.line } } ∷ [])

abbrev pub setting_of : (List ℕ → Method) → Stand → Written → Setting
setting_of m st w = record {
  method_of = m;
  before = postings_of st.drafts;
  head = record { day = w.day; line = w.place.line };
}

-- ---- one directive after the other

-- behind a pad too
abbrev pub with_pad : Stand → Step → List Fault → Stand
with_pad st s fs = record {
  drafts = st.drafts ++ draft.Pad ∷ [];
  steps = s ∷ st.steps;
  faults = st.faults ++ fs;
}

abbrev pub with_balance : Stand → Step → List Fault → Stand
with_balance st s fs = record st { steps = s ∷ st.steps; faults = st.faults ++ fs }

-- what a directive leads to, behind those that are past, the latest of which stands first
abbrev pub IsStepBy : (List ℕ → Method) → List (Placed Directive) → Stand → Placed Directive
    → DirectiveKind → Stand → Type 0
IsStepBy m past st d (kind.Transaction t) new =
    (r : Result (List Posted) LineFault) × Tries (setting_of m st (written_in d t)) t.postings r
    × (new ≡ after_trial past st (written_in d t) r)
IsStepBy m past st d (kind.Open o) new =
    new
    ≡ with_faults st (faults_at (place_of d) (of_open o.account o.method (account_steps past)))
IsStepBy m past st d (kind.Close c) new =
    new ≡ with_faults st (faults_at (place_of d) (of_close c.account (account_steps past)))
IsStepBy m past st d (kind.Pad p) new =
    new
    ≡ with_pad st
    (step.Pad p d.item.day (place_of d))
    (faults_at (place_of d) (of_use p.account (account_steps past))
    ++ faults_at (place_of d) (of_use p.source (account_steps past)))
IsStepBy m past st d (kind.Balance b) new =
    new
    ≡ with_balance st
    (step.Balance b (place_of d) (has_lot b.currency (held b.account (postings_of st.drafts))))
    (faults_at (place_of d) (of_use b.account (account_steps past)))
IsStepBy m past st d other new = new ≡ st

-- what directives lead to, the latest of which stands first
abbrev pub LeadsTo : (List ℕ → Method) → List (Placed Directive) → Stand → Type 0
LeadsTo m [] new = new ≡ start
LeadsTo m (d ∷ past) new =
    (st : Stand) × LeadsTo m past st × IsStepBy m past st d d.item.kind new

-- there are more booked postings than a ledger may have
abbrev pub IsFull : Stand → Type 0
IsFull st = MOST_POSTINGS < length (postings_of st.drafts)

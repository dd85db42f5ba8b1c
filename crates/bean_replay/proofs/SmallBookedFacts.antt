-- What is booked of small directives is small, and what comes of its pads.
use Rattle.std.proofs.Common.{ℕ, zero, suc, ℤ, Bool, true, false, cond, List, [], ◌∷◌}
use Rattle.std.proofs.Common.{◌≤◌, length, map, reverse, Option, Some, None, IfSome, Result, Ok, Err, sym, subst}
use Rattle.std.specs.List.{AllByRecursion}
use Rattle.bean_replay.specs.Stand.{IsStepBy, LeadsTo, Stand, after_trial, posting_step}
use Rattle.bean_replay.specs.Stand.{postings_in, postings_of, setting_of, written_in}
use Rattle.bean_replay.specs.Booked.{bookings_of, with_pads}
use Rattle.bean_replay.specs.Draft.{Draft}
use Rattle.bean_replay.specs.Draft as draft
use Rattle.bean_replay.specs.declared.written.WrittenParts.{WrittenParts as Written}
use Rattle.bean_directives.specs.declared.directive.Directive.{Directive}
use Rattle.bean_directives.specs.declared.directive.DirectiveKind.{DirectiveKind}
use Rattle.bean_directives.specs.declared.directive.DirectiveKind.TheVariants as kind
use Rattle.bean_loaded.specs.declared.placed.Placed.{Placed}
use Rattle.bean_reductions.specs.declared.reduction.Method.{Method}
use Rattle.bean_pad.specs.Note.{difference, note_of, noted, noted_at, noted_of, noted_pads, waiting}
use Rattle.bean_pad.specs.Note.{with_noted}
use Rattle.bean_pad.specs.Tolerance.{is_out, tolerance_of}
use Rattle.bean_pad.specs.declared.note.Note.{Note}
use Rattle.bean_pad.specs.declared.note.NotedPad.{NotedPad}
use Rattle.bean_directives.specs.declared.numbers.Balance.{Balance}
use Rattle.bean_pad.specs.declared.step.Step.{Step}
use Rattle.bean_pad.specs.declared.step.Step.TheVariants as step
use Rattle.bean_transactions.proofs.LightFacts.{kept_light}
use Rattle.bean_transactions.specs.Tried.{Tries}
use Rattle.bean_holdings.specs.declared.posted.Posted.{Posted}
use Rattle.bean_transactions.specs.declared.stop.LineFault.{LineFault}
use Rattle.bean_replay.specs.Small.{IsSmallBooking, IsSmallDraft, IsSmallNote, IsSmallNoted}
use Rattle.bean_replay.specs.Small.{IsSmallPad, IsSmallPosted}
use Rattle.bean_directives.specs.SmallPart.{IsShortCurrency, IsShortEntry, most}
use Rattle.bean_directives.specs.Small.{IsSmallKind, IsSmallTransaction, marks_of}
use Rattle.bean_loaded.specs.Limited.{IsSmall}
use Rattle.bean_replay.proofs.SmallCompletedFacts.{kept_small}
use Rattle.bean_replay.proofs.SmallListFacts.{all_flat, all_reversed}
use Rattle.theory.proofs.AllFacts.{all_joined, all_pushed}

-- ---- pads

-- what pads and balances see
abbrev pub IsSmallStep : Step → Type 0
IsSmallStep (step.Posting p u) = Unit {0}
IsSmallStep (step.Pad p day at) = IsSmallPad p × (at.line ≤ most)
IsSmallStep (step.Balance b at cost) = IsShortCurrency b.currency

abbrev IsSmallNumbered : ℕ × Note → Type 0
IsSmallNumbered n = IsSmallNote n.1

note_small : (pad : Option ℕ) (difference : ℤ) (b : Balance) (cost : Bool)
    → IsShortCurrency b.currency → IfSome (noted_of pad difference b cost) IsSmallNumbered
note_small None difference b cost c = tt
note_small (Some pad) difference b cost c = by (is_out difference (tolerance_of b))
  where
    by : (t : Bool)
        → IfSome (cond t (Some (pad, note_of difference b cost)) None) IsSmallNumbered
    by true = c
    by false = tt

at_small : (k : ℕ) (note : Note) (ps : List NotedPad) → IsSmallNote note
    → AllByRecursion IsSmallNoted ps → AllByRecursion IsSmallNoted (noted_at k note ps)
at_small k note [] small all = tt
at_small zero note (p ∷ ps) small all = (
  record {
    pad = all.0.pad;
    line = all.0.line;
    notes = all_pushed IsSmallNote p.notes note all.0.notes small;
  },
  all.1,
)
at_small (suc k) note (p ∷ ps) small all = (all.0, at_small k note ps small all.1)

with_small : (o : Option (ℕ × Note)) (ps : List NotedPad) → IfSome o IsSmallNumbered
    → AllByRecursion IsSmallNoted ps → AllByRecursion IsSmallNoted (with_noted o ps)
with_small None ps small all = all
with_small (Some n) ps small all = at_small n.0 n.1 ps small all

pub noted_small : (past : List Step) → AllByRecursion IsSmallStep past
    → AllByRecursion IsSmallNoted (noted_pads past)
noted_small [] all = tt
noted_small (step.Posting p u ∷ past) all = noted_small past all.1
noted_small (step.Pad p day at ∷ past) all =
    all_pushed IsSmallNoted (noted_pads past)
    (record { pad = p; day = day; place = at; notes = [] }) (noted_small past all.1)
    (record { pad = all.0.0; line = all.0.1; notes = tt })
noted_small (step.Balance b at cost ∷ past) all =
    with_small (noted past b cost) (noted_pads past)
    (note_small (waiting past b.account b.currency) (difference past b) b cost all.0)
    (noted_small past all.1)

-- ---- one directive after the other

-- what is booked so far is small
abbrev pub IsSmallStand : Stand → Type 0
IsSmallStand st = AllByRecursion IsSmallDraft st.drafts × AllByRecursion IsSmallStep st.steps

posted_steps : (posted : List Posted) → AllByRecursion IsSmallStep (map posting_step posted)
posted_steps [] = tt
posted_steps (p ∷ posted) = (tt, posted_steps posted)

own_small : (d : Draft) → IsSmallDraft d → AllByRecursion IsSmallPosted (postings_in d)
own_small (draft.Transaction k) small = small.postings
own_small draft.Pad small = tt

before_small : (ds : List Draft) → AllByRecursion IsSmallDraft ds
    → AllByRecursion IsSmallPosted (postings_of ds)
before_small ds all = all_flat IsSmallDraft IsSmallPosted postings_in own_small ds all

-- a transaction as it is written
record IsSmallWritten (w : Written) : Type 0 where
  line : w.place.line ≤ most
  metadata : AllByRecursion IsShortEntry w.metadata
  transaction : IsSmallTransaction w.transaction
  few_marks : length w.transaction.marks ≤ most

trial_small : (m : List ℕ → Method) (past : List (Placed Directive)) (st : Stand) (w : Written)
    (r : Result (List Posted) LineFault)
    → Tries (setting_of m st w) w.transaction.postings r → IsSmallWritten w → IsSmallStand st
    → IsSmallStand (after_trial past st w r)
trial_small m past st w (Ok posted) h own small = (
  all_pushed IsSmallDraft st.drafts _ small.0 (record {
    line = own.line;
    metadata = own.metadata;
    transaction = own.transaction;
    few_marks = own.few_marks;
    postings = kept_small (setting_of m st w) w.transaction.postings posted h
        own.transaction.postings (before_small st.drafts small.0);
    light = kept_light (setting_of m st w) w.transaction.postings posted h;
  }),
  all_joined IsSmallStep (reverse (map posting_step posted)) st.steps
      (all_reversed IsSmallStep (map posting_step posted) (posted_steps posted)) small.1,
)
trial_small m past st w (Err f) h own small = small

step_small : (m : List ℕ → Method) (past : List (Placed Directive)) (st : Stand)
    (d : Placed Directive) (k : DirectiveKind) (new : Stand) → IsStepBy m past st d k new
    → IsSmall d → IsSmallKind k → length (marks_of k) ≤ most → IsSmallStand st → IsSmallStand new
step_small m past st d (kind.Transaction t) new h own small few held =
    subst IsSmallStand (sym h.2) (trial_small m past st (written_in d t) h.0 h.1 (record {
      line = own.line;
      metadata = own.metadata;
      transaction = small;
      few_marks = few;
    }) held)
step_small m past st d (kind.Open o) new h own small few held = subst IsSmallStand (sym h) held
step_small m past st d (kind.Close c) new h own small few held = subst IsSmallStand (sym h) held
step_small m past st d (kind.Pad p) new h own small few held =
    subst IsSmallStand (sym h) (
      all_pushed IsSmallDraft st.drafts draft.Pad held.0 tt,
      ((record { account = small.0; source = small.1 }, own.line), held.1),
    )
step_small m past st d (kind.Balance b) new h own small few held =
    subst IsSmallStand (sym h) (held.0, (small.1, held.1))
step_small m past st d (kind.Commodity x) new h own small few held = subst IsSmallStand (sym h) held
step_small m past st d (kind.Note x) new h own small few held = subst IsSmallStand (sym h) held
step_small m past st d (kind.Document x) new h own small few held = subst IsSmallStand (sym h) held
step_small m past st d (kind.Price x) new h own small few held = subst IsSmallStand (sym h) held
step_small m past st d (kind.Event x) new h own small few held = subst IsSmallStand (sym h) held
step_small m past st d (kind.Query x) new h own small few held = subst IsSmallStand (sym h) held
step_small m past st d (kind.Custom x) new h own small few held = subst IsSmallStand (sym h) held

pub stand_small : (m : List ℕ → Method) (past : List (Placed Directive)) (st : Stand)
    → LeadsTo m past st → AllByRecursion IsSmall past → IsSmallStand st
stand_small m [] st h all = subst IsSmallStand (sym h) (tt, tt)
stand_small m (d ∷ past) st h all =
    step_small m past h.0 d d.item.kind st h.2 all.0 all.0.kind all.0.few_marks
    (stand_small m past h.0 h.1 all.1)

pads_small : (ds : List Draft) (ps : List NotedPad) → AllByRecursion IsSmallDraft ds
    → AllByRecursion IsSmallNoted ps → AllByRecursion IsSmallBooking (with_pads ds ps)
pads_small [] ps h g = tt
pads_small (draft.Transaction k ∷ ds) ps h g = (h.0, pads_small ds ps h.1 g)
pads_small (draft.Pad ∷ ds) [] h g = pads_small ds [] h.1 g
pads_small (draft.Pad ∷ ds) (p ∷ ps) h g = (g.0, pads_small ds ps h.1 g.1)

pub booked_small : (m : List ℕ → Method) (past : List (Placed Directive)) (st : Stand)
    → LeadsTo m past st → AllByRecursion IsSmall past
    → AllByRecursion IsSmallBooking (bookings_of st)
booked_small m past st h all =
    let small = stand_small m past st h all in
    pads_small st.drafts (noted_pads st.steps) small.0 (noted_small st.steps small.1)

-- the same of the pads alone, of directives in their order
pub pads_are_small : (m : List ℕ → Method) (ds : List (Placed Directive)) (st : Stand)
    → LeadsTo m (reverse ds) st → AllByRecursion IsSmall ds
    → AllByRecursion IsSmallNoted (noted_pads st.steps)
pads_are_small m ds st h all =
    noted_small st.steps
    (stand_small m (reverse ds) st h (all_reversed IsSmall ds all)).1

-- As many pads are noted as have places among what is booked: for callers.
use Rattle.std.proofs.Common.{◌≡◌, ℕ, zero, suc, ◌+◌, List, [], ◌∷◌, ◌++◌, length, Option, Some}
use Rattle.std.proofs.Common.{None, Result, Ok, Err, refl, sym, ap, ◌∙◌, subst, arith}
use Rattle.std.proofs.lemmas.List.{length-append}
use Rattle.bean_directives.specs.declared.directive.Directive.{Directive}
use Rattle.bean_directives.specs.declared.directive.DirectiveKind.{DirectiveKind}
use Rattle.bean_directives.specs.declared.directive.DirectiveKind.TheVariants as kind
use Rattle.bean_loaded.specs.declared.placed.Placed.{Placed}
use Rattle.bean_lots.specs.Inventory.{has_lot}
use Rattle.bean_reductions.specs.declared.reduction.Method.{Method}
use Rattle.bean_holdings.specs.Held.{held}
use Rattle.bean_holdings.specs.declared.posted.Posted.{Posted}
use Rattle.bean_transactions.specs.declared.stop.LineFault.{LineFault}
use Rattle.bean_pad.specs.Note.{noted, noted_at, noted_pads, with_noted}
use Rattle.bean_pad.specs.declared.note.Note.{Note}
use Rattle.bean_pad.specs.declared.note.NotedPad.{NotedPad}
use Rattle.bean_replay.specs.Booked.{places_in}
use Rattle.bean_replay.specs.Stand.{IsStepBy, LeadsTo, Stand, after_trial, place_of, postings_of}
use Rattle.bean_replay.specs.Stand.{written_in}
use Rattle.bean_replay.specs.Draft.{Draft}
use Rattle.bean_replay.specs.Draft as draft
use Rattle.bean_replay.specs.declared.written.WrittenParts.{WrittenParts as Written}
use Rattle.bean_replay.proofs.ShownFacts.{pads_alone}

places_more : (ds : List Draft) (d : Draft)
    → places_in (ds ++ d ∷ []) ≡ places_in ds + places_in (d ∷ [])
places_more [] d = omega arith
places_more (draft.Transaction k ∷ ds) d = places_more ds d
places_more (draft.Pad ∷ ds) d = let more = places_more ds d in omega (arith, more)

at_count : (k : ℕ) (note : Note) (ps : List NotedPad) → length (noted_at k note ps) ≡ length ps
at_count k note [] = refl
at_count zero note (p ∷ ps) = refl
at_count (suc k) note (p ∷ ps) = ap suc (at_count k note ps)

with_count : (o : Option (ℕ × Note)) (ps : List NotedPad) → length (with_noted o ps) ≡ length ps
with_count None ps = refl
with_count (Some n) ps = at_count n.0 n.1 ps

-- there are as many
abbrev AreAsMany : Stand → Type 0
AreAsMany st = places_in st.drafts ≡ length (noted_pads st.steps)

trial_many : (past : List (Placed Directive)) (st : Stand) (w : Written)
    (r : Result (List Posted) LineFault) → AreAsMany st → AreAsMany (after_trial past st w r)
trial_many past st w (Ok posted) h =
    let more = places_more st.drafts (draft.Transaction (record { written = w; postings = posted })) in
    let same = ap length (pads_alone posted st.steps) in omega (arith, more, same, h)
trial_many past st w (Err f) h = h

step_many : (m : List ℕ → Method) (past : List (Placed Directive)) (st : Stand)
    (d : Placed Directive) (k : DirectiveKind) (new : Stand) → IsStepBy m past st d k new
    → AreAsMany st → AreAsMany new
step_many m past st d (kind.Transaction t) new h many =
    subst AreAsMany (sym h.2) (trial_many past st (written_in d t) h.0 many)
step_many m past st d (kind.Open o) new h many = subst AreAsMany (sym h) many
step_many m past st d (kind.Close c) new h many = subst AreAsMany (sym h) many
step_many m past st d (kind.Pad p) new h many =
    subst AreAsMany (sym h)
    (let own : NotedPad = record { pad = p; day = d.item.day; place = place_of d; notes = [] } in
    let more = places_more st.drafts draft.Pad in
    let one_noted = length-append (noted_pads st.steps) (own ∷ []) in
    omega (arith, more, one_noted, many))
step_many m past st d (kind.Balance b) new h many =
    let cost = has_lot b.currency (held b.account (postings_of st.drafts)) in
    subst AreAsMany (sym h)
    (many ∙ sym (with_count (noted st.steps b cost) (noted_pads st.steps)))
step_many m past st d (kind.Commodity x) new h many = subst AreAsMany (sym h) many
step_many m past st d (kind.Note x) new h many = subst AreAsMany (sym h) many
step_many m past st d (kind.Document x) new h many = subst AreAsMany (sym h) many
step_many m past st d (kind.Price x) new h many = subst AreAsMany (sym h) many
step_many m past st d (kind.Event x) new h many = subst AreAsMany (sym h) many
step_many m past st d (kind.Query x) new h many = subst AreAsMany (sym h) many
step_many m past st d (kind.Custom x) new h many = subst AreAsMany (sym h) many

pub as_many : (m : List ℕ → Method) (past : List (Placed Directive)) (st : Stand)
    → LeadsTo m past st → places_in st.drafts ≡ length (noted_pads st.steps)
as_many m [] st h = subst AreAsMany (sym h) refl
as_many m (d ∷ past) st h =
    step_many m past h.0 d d.item.kind st h.2 (as_many m past h.0 h.1)

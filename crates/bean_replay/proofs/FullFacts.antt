-- What is booked stays booked.
use Rattle.std.proofs.Common.{◌≡◌, ℕ, ◌+◌, ◌<◌, ◌≤◌, List, [], ◌∷◌, ◌++◌, append_assoc, length}
use Rattle.std.proofs.Common.{reverse, Result, Ok, Err, sym, ap, ◌∙◌, subst}
use Rattle.std.proofs.Common.{arith}
use Rattle.std.proofs.lemmas.List.{reverse-append}
use Rattle.bean_base.specs.declared.fault.Fault.{Fault}
use Rattle.limits.specs.declared.counts.TheConstants.{MOST_POSTINGS}
use Rattle.bean_pad.specs.declared.step.Step.{Step}
use Rattle.bean_directives.specs.declared.directive.Directive.{Directive}
use Rattle.bean_directives.specs.declared.directive.DirectiveKind.{DirectiveKind}
use Rattle.bean_directives.specs.declared.directive.DirectiveKind.TheVariants as kind
use Rattle.bean_loaded.specs.declared.placed.Placed.{Placed}
use Rattle.bean_reductions.specs.declared.reduction.Method.{Method}
use Rattle.bean_transactions.proofs.OneTrial.{one_trial}
use Rattle.bean_transactions.specs.Tried.{Tries}
use Rattle.bean_holdings.specs.declared.posted.Posted.{Posted}
use Rattle.bean_transactions.specs.declared.stop.LineFault.{LineFault}
use Rattle.bean_replay.proofs.OneBooking.{one_stand}
use Rattle.bean_replay.proofs.ShownFacts.{count_more}
use Rattle.bean_replay.specs.Stand.{IsFull, IsStepBy, LeadsTo, Stand, after_trial, postings_of}
use Rattle.bean_accounts.specs.Faults.{faults_at, of_use}
use Rattle.bean_pad.specs.declared.step.Step.TheVariants as step
use Rattle.bean_replay.specs.Stand.{account_steps, place_of, setting_of, with_pad, written_in}
use Rattle.bean_replay.specs.declared.cause.BookCause.{BookCause}
use Rattle.refusals.specs.declared.refusal.Refusal.{Refusal}
use Rattle.refusals.specs.declared.refusal.Refusal.TheVariants.{OutOfMemory}
use Rattle.bean_replay.specs.Draft.{Draft}
use Rattle.bean_replay.specs.Draft as draft
use Rattle.bean_replay.specs.declared.written.WrittenParts.{WrittenParts as Written}

kept : Written → List Posted → Draft
kept w posted = draft.Transaction (record { written = w; postings = posted })

pub full_kept : (m : List ℕ → Method) (past : List (Placed Directive)) (st : Stand) (w : Written)
    (posted : List Posted) (r : Result (List Posted) LineFault)
    → Tries (setting_of m st w) w.transaction.postings (Ok posted)
    → Tries (setting_of m st w) w.transaction.postings r
    → MOST_POSTINGS < length (postings_of st.drafts) + length posted
    → IsFull (after_trial past st w r)
unfolding kept
full_kept m past st w posted r h g many =
    subst (λ r. IsFull (after_trial past st w r))
    (one_trial (setting_of m st w) w.transaction.postings (Ok posted) r h g)
    (subst (λ n. MOST_POSTINGS < n) (sym (count_more st.drafts (kept w posted))) many)

abbrev size : Stand → ℕ
size st = length (postings_of st.drafts)

same_size : (a b : Stand) → b ≡ a → size a ≤ size b
same_size a b e = subst (λ s. size a ≤ size s) (sym e) (omega arith)

after_size : (past : List (Placed Directive)) (st : Stand) (w : Written)
    (r : Result (List Posted) LineFault) → size st ≤ size (after_trial past st w r)
unfolding kept
after_size past st w (Ok posted) =
    let n = count_more st.drafts (kept w posted) in omega (arith, n)
after_size past st w (Err f) = omega arith

pad_size : (st : Stand) (s : Step) (fs : List Fault) → size st ≤ size (with_pad st s fs)
pad_size st s fs = let n = count_more st.drafts draft.Pad in omega (arith, n)

step_size : (m : List ℕ → Method) (past : List (Placed Directive)) (st : Stand)
    (d : Placed Directive) (k : DirectiveKind) (new : Stand) → IsStepBy m past st d k new
    → size st ≤ size new
step_size m past st d (kind.Transaction t) new h =
    subst (λ s. size st ≤ size s) (sym h.2) (after_size past st (written_in d t) h.0)
step_size m past st d (kind.Open o) new h = subst (λ s. size st ≤ size s) (sym h) (omega arith)
step_size m past st d (kind.Close c) new h = subst (λ s. size st ≤ size s) (sym h) (omega arith)
step_size m past st d (kind.Pad p) new h =
    subst (λ s. size st ≤ size s) (sym h)
    (pad_size st (step.Pad p d.item.day (place_of d))
    (faults_at (place_of d) (of_use p.account (account_steps past))
    ++ faults_at (place_of d) (of_use p.source (account_steps past))))
step_size m past st d (kind.Balance b) new h = subst (λ s. size st ≤ size s) (sym h) (omega arith)
step_size m past st d (kind.Commodity x) new h = same_size st new h
step_size m past st d (kind.Note x) new h = same_size st new h
step_size m past st d (kind.Document x) new h = same_size st new h
step_size m past st d (kind.Price x) new h = same_size st new h
step_size m past st d (kind.Event x) new h = same_size st new h
step_size m past st d (kind.Query x) new h = same_size st new h
step_size m past st d (kind.Custom x) new h = same_size st new h

led_by : (m : List ℕ → Method) (later past : List (Placed Directive)) (new : Stand)
    → LeadsTo m (later ++ past) new
    → (st : Stand) × LeadsTo m past st × (size st ≤ size new)
led_by m [] past new h = (new, h, omega arith)
led_by m (d ∷ later) past new h =
    let before = led_by m later past h.0 h.1 in (
      before.0,
      before.1,
      omega (arith, before.2, step_size m (later ++ past) h.0 d d.item.kind new h.2),
    )

-- where a directive fills the books, all directives do
pub full_for_good : (m : List ℕ → Method) (before after : List (Placed Directive))
    (d : Placed Directive) (st new : Stand) → LeadsTo m (reverse before) st
    → ((next : Stand) → IsStepBy m (reverse before) st d d.item.kind next → IsFull next)
    → LeadsTo m (reverse (before ++ d ∷ after)) new → IsFull new
full_for_good m before after d st new led full all =
    let past = reverse before in
    let turned : reverse (before ++ d ∷ after) ≡ reverse after ++ d ∷ past =
    reverse-append before (d ∷ after)
    ∙ ap (λ l. l ++ past) (reverse-append (d ∷ []) after)
    ∙ append_assoc (reverse after) (d ∷ []) past in
    let mid =
    led_by m (reverse after) (d ∷ past) new
    (subst (λ l. LeadsTo m l new) turned all) in
    let same = one_stand m past mid.1.0 st mid.1.1 led in
    let filled =
    full mid.0 (subst (λ s. IsStepBy m past s d d.item.kind mid.0) same mid.1.2) in
    omega (arith, filled, mid.2)

abbrev pub fault_of : {X : Type 0} → Result X (Refusal BookCause) → Refusal BookCause
fault_of (Ok x) = OutOfMemory
fault_of (Err f) = f

-- What pads and balances see of booked postings; those that they don't see change nothing of what
-- these come to.
use Rattle.std.proofs.Common.{◌≡◌, ◌+◌, Bool, true, false, List, [], ◌∷◌, ◌++◌, length, map}
use Rattle.std.proofs.Common.{append_assoc, reverse, refl, sym, ap, ◌∙◌}
use Rattle.std.specs.List.{flat_map}
use Rattle.std.proofs.lemmas.Grind.{flat_map-append}
use Rattle.std.proofs.lemmas.List.{append-nil, length-append, map-append, reverse-append}
use Rattle.bean_pad.specs.Note.{noted_pads}
use Rattle.bean_pad.specs.Padded.{IsPadded, faults_with}
use Rattle.bean_pad.specs.Standing.{failing, faults_of_pad}
use Rattle.bean_pad.specs.declared.note.NotedPad.{NotedPad}
use Rattle.bean_pad.specs.declared.padder.Padded.{Padded}
use Rattle.bean_pad.specs.declared.step.Step.{Step}
use Rattle.bean_holdings.specs.declared.posted.Posted.{Posted}
use Rattle.bean_replay.specs.Stand.{posting_step, postings_in, postings_of, steps_of_postings}
use Rattle.bean_replay.specs.Watched.{seen_of, unseen_of}
use Rattle.bean_replay.specs.Draft.{Draft}

-- ---- one more booking

pub postings_more : (ks : List Draft) (k : Draft)
    → postings_of (ks ++ k ∷ []) ≡ postings_of ks ++ postings_in k
postings_more ks k =
    flat_map-append postings_in ks (k ∷ [])
    ∙ ap (λ l. postings_of ks ++ l) (append-nil (postings_in k))

pub count_more : (ks : List Draft) (k : Draft)
    → length (postings_of (ks ++ k ∷ [])) ≡ length (postings_of ks) + length (postings_in k)
count_more ks k =
    ap length (postings_more ks k) ∙ length-append (postings_of ks) (postings_in k)

-- ---- what is seen, and what isn't

-- those that are booked later are seen later
seen_later : (old posted : List Posted)
    → steps_of_postings (old ++ posted) ≡ steps_of_postings posted ++ steps_of_postings old
seen_later old posted =
    ap reverse (map-append posting_step old posted)
    ∙ reverse-append (map posting_step old) (map posting_step posted)

pub shown_more : (watched : Bool) (old posted all : List Posted) (steps seen : List Step)
    → all ≡ old ++ posted
    → steps ≡ steps_of_postings (unseen_of watched old) ++ seen
    → steps_of_postings posted ++ steps
    ≡ steps_of_postings (unseen_of watched all) ++ (seen_of watched posted ++ seen)
shown_more true old posted all steps seen e is = ap (λ l. steps_of_postings posted ++ l) is
shown_more false old posted all steps seen e is =
    ap (λ l. steps_of_postings posted ++ l) is
    ∙ sym (append_assoc (steps_of_postings posted) (steps_of_postings old) seen)
    ∙ ap (λ l. l ++ seen) (sym (ap steps_of_postings e ∙ seen_later old posted))

-- ---- postings alone

-- the latest of postings, behind the others
latest : (p : Posted) (ps : List Posted) (past : List Step)
    → steps_of_postings (p ∷ ps) ++ past ≡ steps_of_postings ps ++ posting_step p ∷ past
latest p ps past =
    ap (λ l. l ++ past) (reverse-append (posting_step p ∷ []) (map posting_step ps))
    ∙ append_assoc (steps_of_postings ps) (posting_step p ∷ []) past

pub pads_alone : (ps : List Posted) (past : List Step)
    → noted_pads (steps_of_postings ps ++ past) ≡ noted_pads past
pads_alone [] past = refl
pads_alone (p ∷ ps) past = ap noted_pads (latest p ps past) ∙ pads_alone ps (posting_step p ∷ past)

failing_alone : (qs : List NotedPad) (ps : List Posted) (past : List Step)
    → failing qs (steps_of_postings ps ++ past) ≡ failing qs past
failing_alone qs [] past = refl
failing_alone qs (p ∷ ps) past =
    ap (failing qs) (latest p ps past) ∙ failing_alone qs ps (posting_step p ∷ past)

faults_alone : (ps : List Posted) (past : List Step)
    → faults_with (noted_pads (steps_of_postings ps ++ past)) (steps_of_postings ps ++ past)
    ≡ faults_with (noted_pads past) past
faults_alone ps past =
    ap (λ qs. faults_with qs (steps_of_postings ps ++ past)) (pads_alone ps past)
    ∙ ap (λ l. flat_map faults_of_pad (noted_pads past) ++ l) (failing_alone (noted_pads past) ps past)

-- what is seen decides what pads and balances come to
pub padded_by_seen : (unseen : List Posted) (seen steps : List Step) (r : Padded)
    → steps ≡ steps_of_postings unseen ++ seen → IsPadded seen r → IsPadded steps r
padded_by_seen unseen seen steps r e h = record {
  pads = h.pads ∙ sym (ap noted_pads e ∙ pads_alone unseen seen);
  faults =
      h.faults
      ∙ sym (ap (λ l. faults_with (noted_pads l) l) e ∙ faults_alone unseen seen);
}

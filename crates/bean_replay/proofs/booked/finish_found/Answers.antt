use Rattle.std.proofs.Common.{◌≡◌, ◌∙◌, ap, subst, sym}
use Rattle.bean_accounts.proofs.LogFacts.{joined}
use Rattle.bean_accounts.specs.Log as logs
use Rattle.bean_accounts.specs.Log.{asked_for, is_kept, with_found}
use Rattle.bean_pad.specs.Following.{Follows}
use Rattle.bean_replay.specs.Booked.{faults_before}
use Rattle.bean_replay.specs.Stand.{postings_of}
use Rattle.bean_replay.specs.Watched.{unseen_of}
use Rattle.bean_replay.proofs.ShownFacts.{padded_by_seen}
use Rattle.bean_replay.proofs.booked.finish_found.Goals as goal

pub returns : goal.returns
returns c = λ m past st is l before found same.
    let parts = c.into_found-padder.ensures in
    let padded =
    padded_by_seen (unseen_of c.args.booker.watched (postings_of st.drafts)) is.seen st.steps
    c.in_ok-padded.padded is.steps_are
    (c.in_ok-padded.ensures is.seen (subst (Follows is.seen) (sym (ap (λ r. r.0) parts)) is.follows)) in
    let own = ap (λ r. r.1) parts in
    let asked = subst (λ k. k ≡ asked_for (is_kept k) st.faults) (sym own) is.faults_are in (
      padded.pads,
      c.in_ok-add_all.ensures
          ∙ ap (with_found c.in_ok-padded.padded.faults) c.in_ok-join.ensures
          ∙ (λ k. with_found (padded.faults k) (with_found (logs.found c.into_found-padder.result.1) (found k)))
          ∙ joined before c.into_found-padder.result.1 (faults_before l) st.faults _ asked
          (ap is_kept own ∙ same),
    )

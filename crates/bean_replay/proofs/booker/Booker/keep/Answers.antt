use Rattle.std.proofs.Common.{◌++◌, ◌∷◌, [], List, ap, arith, length, not, subst}
use Rattle.std.proofs.Common.{append_assoc, sym, ◌∙◌}
use Rattle.std.specs.List.{flat_map}
use Rattle.bean_accounts.proofs.LogFacts.{asked_as_before, asked_more}
use Rattle.bean_accounts.specs.Faults.{faults_at, kind_if}
use Rattle.bean_accounts.specs.Log.{asked_for, is_kept, with_found}
use Rattle.bean_base.specs.declared.fault.FaultKind.TheVariants as kinds
use Rattle.bean_base.specs.declared.span.Place.{Place}
use Rattle.bean_interp.specs.Balance.{is_balanced}
use Rattle.bean_pad.specs.Following.{Follows}
use Rattle.bean_postings.specs.declared.posting.Posting.{Posting}
use Rattle.bean_holdings.specs.Holdings.{AreHeld}
use Rattle.bean_transactions.specs.Tried.{booked_legs}
use Rattle.bean_holdings.specs.declared.posted.Posted.{Posted}
use Rattle.bean_replay.specs.Stand.{account_steps, posted_faults, postings_of}
use Rattle.bean_replay.specs.Watched.{seen_of}
use Rattle.bean_replay.specs.Draft.{Draft}
use Rattle.bean_replay.specs.Draft as draft
use Rattle.bean_replay.proofs.ShownFacts.{count_more, postings_more, shown_more}
use Rattle.bean_replay.proofs.StepFacts.{as_booked}
use Rattle.bean_replay.proofs.booker.Booker.keep.Goals as goal

pub show_watched-requires-clause-near : goal.show_watched-requires-clause-near
show_watched-requires-clause-near c = c.requires.stands.is.room.near

pub show_watched-requires-clause-few : goal.show_watched-requires-clause-few
show_watched-requires-clause-few c =
    let z = c.requires.stands in
    let steps = z.is.room.steps in
    let few = z.is.room.few in
    let past = z.few in
    let room = c.if-as_slice-additions.false in
    let own = c.additions.ensures in
    let shown =
    ap length (c.as_slice-2.ensures.value
    ∙ as_booked c.into_vec-posted.result.len c.into_vec-posted.result.items
    c.as_mut_slice.result.now c.book_postings.new.posted c.as_slice.result.now
    c.as_mut_slice.ensures.len c.in_ok-book_postings.ensures.posted
    (c.as_mut_slice.ensures.value ∙ c.into_vec-posted.ensures ∙ sym c.as_slice.ensures)) in
    omega (arith, steps, few, past, room, own, shown)

pub returns-clause-standing : goal.returns-clause-standing
returns-clause-standing c = λ m past st is.
    let b = c.args.self.now in
    let w = c.args.written.now in
    let there = c.place-at.ensures in
    let posted : List Posted = c.args.tried.posted in
    let one : Draft = draft.Transaction (record { written = w; postings = posted }) in
    let lent = c.as_mut_slice.ensures.value ∙ c.into_vec-posted.ensures in
    let back =
    as_booked c.into_vec-posted.result.len c.into_vec-posted.result.items
    c.as_mut_slice.result.now c.book_postings.new.posted posted c.as_mut_slice.ensures.len
    c.in_ok-book_postings.ensures.posted lent in
    let shown = c.as_slice-2.ensures.value ∙ back in
    let written = c.requires.own in
    let count = count_more st.drafts one in
    let added = c.in_ok-book_postings.ensures.additions in
    let before = is.count in
    let lengths = ap length lent in
    let seen = ap length shown in
    let sizes = ap length c.as_slice.ensures in
    let own : Place → List Posting → List Posted → List _ = λ at ps l.
    faults_at at (kind_if (not (is_balanced (booked_legs ps l))) kinds.Unbalanced) in
    let each : Place → List Posting → List Posted → List _ = λ at ps l.
    flat_map (posted_faults (account_steps past) at ps) l in
    record {
      stands = record {
        methods = is.methods;
        accounts = c.in_ok-book_postings.ensures.kept (account_steps past) is.accounts;
        held = subst (λ l. AreHeld l c.book_postings.new.holdings)
            (ap (λ l. postings_of st.drafts ++ l) lent ∙ sym (postings_more st.drafts one))
            (c.in_ok-book_postings.ensures.held (postings_of st.drafts) is.held);
        count = omega (arith, count, added, lengths, before);
        seen = seen_of b.watched posted ++ is.seen;
        follows = subst (λ l. Follows (seen_of b.watched l ++ is.seen) c.show_watched.new.padder) shown
            (c.in_ok-show_watched.ensures.follows is.seen is.follows);
        steps_are = shown_more b.watched (postings_of st.drafts) posted
            (postings_of (st.drafts ++ one ∷ [])) st.steps is.seen (postings_more st.drafts one)
            is.steps_are;
        faults_are =
            asked_more c.note_balance.new.faults c.book_postings.new.faults
            (st.faults ++ own w.place w.transaction.postings posted)
            (each w.place w.transaction.postings posted)
            (asked_more b.faults c.note_balance.new.faults st.faults
            (own w.place w.transaction.postings posted) is.faults_are
            (c.in_ok-note_balance.ensures
            ∙ (λ k. with_found (own (there k) (written k) posted) b.faults)))
            (c.in_ok-book_postings.ensures.faults (account_steps past) is.accounts
            ∙ (λ k. with_found (each (there k) (written k) (lent k)) c.note_balance.new.faults))
            ∙ ap (asked_for (is_kept c.book_postings.new.faults))
            (append_assoc st.faults (own w.place w.transaction.postings posted)
            (each w.place w.transaction.postings posted));
        room = record {
          bounded = c.in_ok-book_postings.ensures.bounded;
          near = c.in_ok-show_watched.ensures.near;
          few =
              let room = c.if-as_slice-additions.false in
              let own = c.additions.ensures in omega (arith, room, own, added, lengths, sizes);
          steps =
              let few = is.room.steps in
              let more = c.in_ok-show_watched.ensures.steps in
              omega (arith, more, few, added, lengths, seen);
        };
      };
      adds = λ k. st.drafts
          ++ draft.Transaction (record {
            written = w;
            postings = sym (c.new.ensures ∙ back) k;
          })
          ∷ [];
    }

pub returns-clause-asks : goal.returns-clause-asks
returns-clause-asks c =
    let z = c.requires.stands in
    let behind =
    c.in_ok-book_postings.ensures.faults (account_steps z.past) z.is.accounts in
    ap (λ k. (c.args.self.now.watched, k))
    (asked_as_before c.note_balance.new.faults _ _ behind
    ∙ asked_as_before c.args.self.now.faults _ _ c.in_ok-note_balance.ensures)

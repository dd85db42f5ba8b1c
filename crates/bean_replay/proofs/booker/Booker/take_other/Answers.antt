use Rattle.std.proofs.Common.{◌≡◌, ◌++◌, ◌∷◌, [], ap, arith, sym, true}
use Rattle.std.proofs.Common.{◌∙◌, refl, subst}
use Rattle.std.proofs.lemmas.List.{append-nil}
use Rattle.bean_accounts.specs.Faults.{faults_at, of_close, of_open, of_use}
use Rattle.bean_accounts.specs.Kept.{IsKept}
use Rattle.bean_accounts.specs.Log.{with_found}
use Rattle.bean_accounts.proofs.LogFacts.{asked_as_before, asked_more}
use Rattle.bean_lots.specs.Inventory.{has_lot}
use Rattle.bean_pad.specs.Following.{Follows}
use Rattle.bean_pad.specs.declared.step.Step.TheVariants as step
use Rattle.bean_holdings.specs.Held.{held}
use Rattle.bean_directives.specs.declared.numbers.Balance.{Balance}
use Rattle.bean_holdings.specs.Holdings.{AreHeld, holding}
use Rattle.bean_holdings.proofs.LotFacts.{lot_among_lots}
use Rattle.bean_replay.specs.Booker.{drafts_in, pad_in}
use Rattle.bean_replay.specs.Stand.{IsStepBy, account_step, account_steps}
use Rattle.bean_replay.specs.Stand.{place_of, postings_of, steps_of_postings}
use Rattle.bean_replay.specs.Stand.{with_balance, with_faults, with_pad}
use Rattle.bean_replay.specs.Watched.{is_watching, unseen_of}
use Rattle.bean_replay.specs.Draft as draft
use Rattle.bean_replay.proofs.ShownFacts.{count_more, postings_more}
use Rattle.bean_replay.proofs.TakeFacts.{later, no_pad, other}
use Rattle.bean_replay.proofs.booker.Booker.take_other.Goals as goal

pub returns-in_ok-take_open-in-Open-clause-standing :
    goal.returns-in_ok-take_open-in-Open-clause-standing
returns-in_ok-take_open-in-Open-clause-standing c = λ m past st is d same_day from same_kind.
    let b = c.args.self.now in
    let o = c.in-Open.open in
    let steps = account_steps past in
    let done = c.in_ok-take_open-in-Open.ensures in
    let at = sym from in
    let new = with_faults st (faults_at (place_of d) (of_open o.account o.method steps)) in (
      new,
      subst (λ k. IsStepBy m past st d k new) (sym (same_kind ∙ c.in-Open.is)) refl,
      record {
        stands = record {
          methods = is.methods;
          accounts =
              subst (λ k. IsKept (account_step k ++ steps) c.take_open.new.accounts)
              (sym (same_kind ∙ c.in-Open.is)) (done.kept steps is.accounts);
          held = is.held;
          count = is.count;
          seen = is.seen;
          follows = is.follows;
          steps_are = is.steps_are;
          faults_are = asked_more b.faults c.take_open.new.faults st.faults
              (faults_at (place_of d) (of_open o.account o.method steps)) is.faults_are
              (done.faults steps is.accounts
              ∙ (λ k. with_found (faults_at (at k) (of_open o.account o.method steps)) b.faults));
          room = record {
            bounded = is.room.bounded;
            near = is.room.near;
            few = is.room.few;
            steps = let few = is.room.steps in omega (arith, few);
          };
        };
        adds = subst (λ k. st.drafts ≡ st.drafts ++ drafts_in (pad_in k)) (sym c.in-Open.is)
            (sym (append-nil st.drafts));
      },
    )

pub returns-in_ok-take_close-in-Close-clause-standing :
    goal.returns-in_ok-take_close-in-Close-clause-standing
returns-in_ok-take_close-in-Close-clause-standing c = λ m past st is d same_day from same_kind.
    let b = c.args.self.now in
    let o = c.in-Close.close in
    let steps = account_steps past in
    let done = c.in_ok-take_close-in-Close.ensures in
    let at = sym from in
    let new = with_faults st (faults_at (place_of d) (of_close o.account steps)) in (
      new,
      subst (λ k. IsStepBy m past st d k new) (sym (same_kind ∙ c.in-Close.is)) refl,
      record {
        stands = record {
          methods = is.methods;
          accounts =
              subst (λ k. IsKept (account_step k ++ steps) c.take_close.new.accounts)
              (sym (same_kind ∙ c.in-Close.is)) (done.kept steps is.accounts);
          held = is.held;
          count = is.count;
          seen = is.seen;
          follows = is.follows;
          steps_are = is.steps_are;
          faults_are = asked_more b.faults c.take_close.new.faults st.faults
              (faults_at (place_of d) (of_close o.account steps)) is.faults_are
              (done.faults steps is.accounts
              ∙ (λ k. with_found (faults_at (at k) (of_close o.account steps)) b.faults));
          room = record {
            bounded = is.room.bounded;
            near = is.room.near;
            few = is.room.few;
            steps = let few = is.room.steps in omega (arith, few);
          };
        };
        adds = subst (λ k. st.drafts ≡ st.drafts ++ drafts_in (pad_in k)) (sym c.in-Close.is)
            (sym (append-nil st.drafts));
      },
    )

pub take_pad-requires-clause-near : goal.take_pad-requires-clause-near
take_pad-requires-clause-near c = c.requires.stands.is.room.near

pub take_pad-requires-clause-few : goal.take_pad-requires-clause-few
take_pad-requires-clause-few c =
    let z = c.requires.stands in
    let room = z.is.room in
    let few = z.few in omega (arith, room.steps, room.few, few)

pub returns-in_ok-take_pad-in-Pad-clause-standing :
    goal.returns-in_ok-take_pad-in-Pad-clause-standing
returns-in_ok-take_pad-in-Pad-clause-standing c = λ m past st is d same_day from same_kind.
    let b = c.args.self.now in
    let p = c.in-Pad.pad in
    let watched : b.watched ≡ true = c.requires.watched (ap is_watching c.in-Pad.is) in
    let same : st.steps ≡ is.seen =
    is.steps_are
    ∙ ap (λ w. steps_of_postings (unseen_of w (postings_of st.drafts)) ++ is.seen) watched in
    let steps = account_steps past in
    let done = c.in_ok-take_pad-in-Pad.ensures in
    let at = sym from in
    let later = postings_of (st.drafts ++ draft.Pad ∷ []) in
    let first = faults_at (place_of d) (of_use p.account steps) in
    let second = faults_at (place_of d) (of_use p.source steps) in
    let own = step.Pad p d.item.day (place_of d) in
    let new = with_pad st own (first ++ second) in (
      new,
      subst (λ k. IsStepBy m past st d k new) (sym (same_kind ∙ c.in-Pad.is)) refl,
      record {
        stands = record {
          methods = is.methods;
          accounts =
              subst (λ k. IsKept (account_step k ++ steps) b.accounts) (sym (same_kind ∙ c.in-Pad.is))
              is.accounts;
          held =
              subst (λ l. AreHeld l b.holdings)
              (sym (postings_more st.drafts draft.Pad ∙ append-nil (postings_of st.drafts)))
              is.held;
          count =
              let more = count_more st.drafts draft.Pad in
              let count = is.count in omega (arith, more, count);
          seen = own ∷ is.seen;
          follows =
              subst (λ at. Follows (step.Pad p d.item.day at ∷ is.seen) c.take_pad.new.padder) at
              (subst (λ day. Follows (step.Pad p day c.args.place ∷ is.seen) c.take_pad.new.padder)
              (sym same_day) (done.follows is.seen is.follows));
          steps_are =
              ap (λ l. own ∷ l) same
              ∙ sym (ap (λ w. steps_of_postings (unseen_of w later) ++ own ∷ is.seen) watched);
          faults_are = asked_more b.faults c.take_pad.new.faults st.faults (first ++ second)
              is.faults_are
              (done.faults steps is.accounts
              ∙ (λ k. with_found (faults_at (at k) (of_use p.account steps)
              ++ faults_at (at k) (of_use p.source steps)) b.faults));
          room = record {
            bounded = is.room.bounded;
            near = done.near;
            few = is.room.few;
            steps =
                let few = is.room.steps in
                let one = done.steps in omega (arith, few, one);
          };
        };
        adds = subst (λ k. st.drafts ++ draft.Pad ∷ [] ≡ st.drafts ++ drafts_in (pad_in k))
            (sym c.in-Pad.is) refl;
      },
    )

pub take_balance-requires-clause-near : goal.take_balance-requires-clause-near
take_balance-requires-clause-near c = c.requires.stands.is.room.near

pub take_balance-requires-clause-few : goal.take_balance-requires-clause-few
take_balance-requires-clause-few c =
    let z = c.requires.stands in
    let room = z.is.room in
    let few = z.few in omega (arith, room.steps, room.few, few)

pub returns-in_ok-take_balance-in-Balance-clause-standing :
    goal.returns-in_ok-take_balance-in-Balance-clause-standing
returns-in_ok-take_balance-in-Balance-clause-standing c = λ m past st is d same_day from same_kind.
    let own_booker = c.args.self.now in
    let b = c.in-Balance.balance in
    let watched : own_booker.watched ≡ true = c.requires.watched (ap is_watching c.in-Balance.is) in
    let before = postings_of st.drafts in
    let same : st.steps ≡ is.seen =
    is.steps_are ∙ ap (λ w. steps_of_postings (unseen_of w before) ++ is.seen) watched in
    let lent = c.get.ensures in
    let steps = account_steps past in
    let done = c.in_ok-take_balance-in-Balance.ensures in
    let at = sym from in
    let cost = has_lot b.currency (held b.account (postings_of st.drafts)) in
    let found = faults_at (place_of d) (of_use b.account steps) in
    let own = step.Balance b (place_of d) cost in
    let new = with_balance st own found in (
      new,
      subst (λ k. IsStepBy m past st d k new) (sym (same_kind ∙ c.in-Balance.is)) refl,
      record {
        stands = record {
          methods = is.methods;
          accounts =
              subst (λ k. IsKept (account_step k ++ steps) own_booker.accounts)
              (sym (same_kind ∙ c.in-Balance.is)) is.accounts;
          held = is.held;
          count = is.count;
          seen = own ∷ is.seen;
          follows =
              subst (λ at. Follows (step.Balance b at cost ∷ is.seen)
              c.take_balance.new.padder) at
              (subst (λ q. Follows (step.Balance b c.args.place q ∷ is.seen)
              c.take_balance.new.padder)
              (ap (has_lot b.currency) (is.held.each b.account)
              ∙ lot_among_lots b.currency (held b.account before))
              (subst (λ (b : Balance). Follows
              (step.Balance b c.args.place
              (has_lot b.currency (holding own_booker.holdings b.account)) ∷ is.seen)
              c.take_balance.new.padder) lent (done.follows is.seen is.follows)));
          steps_are =
              ap (λ l. own ∷ l) same
              ∙ sym (ap (λ w. steps_of_postings (unseen_of w before) ++ own ∷ is.seen) watched);
          faults_are = asked_more own_booker.faults c.take_balance.new.faults st.faults found
              is.faults_are
              (done.faults steps is.accounts
              ∙ (λ k. with_found (faults_at (at k) (of_use (lent k).account steps)) own_booker.faults));
          room = record {
            bounded = is.room.bounded;
            near = done.near;
            few = is.room.few;
            steps =
                let few = is.room.steps in
                let one = done.steps in omega (arith, few, one);
          };
        };
        adds = subst (λ k. st.drafts ≡ st.drafts ++ drafts_in (pad_in k)) (sym c.in-Balance.is)
            (sym (append-nil st.drafts));
      },
    )

pub returns-in_default-clause-standing : goal.returns-in_default-clause-standing
returns-in_default-clause-standing c = λ m past st is d same_day from same_kind.
    let none =
    other m past st d c.args.kind.now c.requires.other c.in_default.not-Open c.in_default.not-Close
    c.in_default.not-Pad c.in_default.not-Balance in (
      st,
      subst (λ k. IsStepBy m past st d k st) (sym same_kind) none.0,
      record {
        stands = later m past st d c.args.self.now (ap account_step same_kind ∙ none.1) is;
        adds = sym (ap (λ o. st.drafts ++ drafts_in o) (no_pad c.args.kind.now c.in_default.not-Pad)
            ∙ append-nil st.drafts);
      },
    )

pub returns-in_ok-take_open-in-Open-clause-asks : goal.returns-in_ok-take_open-in-Open-clause-asks
returns-in_ok-take_open-in-Open-clause-asks c =
    let z = c.requires.stands in
    let found = c.in_ok-take_open-in-Open.ensures.faults (account_steps z.past) z.is.accounts in
    ap (λ k. (c.args.self.now.watched, k)) (asked_as_before c.args.self.now.faults _ _ found)

pub returns-in_ok-take_close-in-Close-clause-asks : goal.returns-in_ok-take_close-in-Close-clause-asks
returns-in_ok-take_close-in-Close-clause-asks c =
    let z = c.requires.stands in
    let found = c.in_ok-take_close-in-Close.ensures.faults (account_steps z.past) z.is.accounts in
    ap (λ k. (c.args.self.now.watched, k)) (asked_as_before c.args.self.now.faults _ _ found)

pub returns-in_ok-take_pad-in-Pad-clause-asks : goal.returns-in_ok-take_pad-in-Pad-clause-asks
returns-in_ok-take_pad-in-Pad-clause-asks c =
    let z = c.requires.stands in
    let found = c.in_ok-take_pad-in-Pad.ensures.faults (account_steps z.past) z.is.accounts in
    ap (λ k. (c.args.self.now.watched, k)) (asked_as_before c.args.self.now.faults _ _ found)

pub returns-in_ok-take_balance-in-Balance-clause-asks : goal.returns-in_ok-take_balance-in-Balance-clause-asks
returns-in_ok-take_balance-in-Balance-clause-asks c =
    let z = c.requires.stands in
    let found = c.in_ok-take_balance-in-Balance.ensures.faults (account_steps z.past) z.is.accounts in
    ap (λ k. (c.args.self.now.watched, k)) (asked_as_before c.args.self.now.faults _ _ found)

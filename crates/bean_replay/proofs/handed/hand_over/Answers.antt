use Rattle.std.proofs.Common.{◌++◌, ◌≤◌, arith, length, refl, subst, sym}
use Rattle.std.proofs.lemmas.List.{append-nil}
use Rattle.std.specs.List.{AllByRecursion}
use Rattle.limits.specs.declared.counts.TheConstants.{MOST_POSTINGS}
use Rattle.bean_replay.specs.Booker.{draft_of, drafts_in}
use Rattle.bean_replay.specs.Small.{IsSmallDraft}
use Rattle.bean_replay.specs.Stand.{postings_of}
use Rattle.bean_replay.specs.Draft as draft
use Rattle.bean_replay.proofs.ShownFacts.{count_more}
use Rattle.bean_replay.proofs.handed.hand_over.Goals as goal

pub keep-requires : goal.keep-requires
keep-requires g c = λ k.
    let w = c.args.written in
    let r = c.requires.room in
    let one = draft.Transaction (record { written = w; postings = c.in-Some.postings }) in
    let more = count_more r.0 one in
    let few =
    subst (λ o. length (postings_of (r.0 ++ drafts_in (draft_of w o))) ≤ MOST_POSTINGS) c.in-Some.is
    r.2 in (
      (refl, tt),
      (
        (subst (λ o. AllByRecursion IsSmallDraft (drafts_in (draft_of w o))) c.in-Some.is
            c.requires.small).0,
        (r.0, r.1, omega (arith, more, few)),
      ),
    )

pub returns-in_ok-keep-in-Some-clause-taken : goal.returns-in_ok-keep-in-Some-clause-taken
returns-in_ok-keep-in-Some-clause-taken g c = λ ds has.
    subst (λ o. g.S.Bookings.has_taken c.keep.new.self (ds ++ drafts_in (draft_of c.args.written o)))
    (sym c.in-Some.is) (c.in_ok-keep-in-Some.ensures ds has)

pub returns-in-None-clause-taken : goal.returns-in-None-clause-taken
returns-in-None-clause-taken g c = λ ds has.
    subst (λ o. g.S.Bookings.has_taken c.args.to.now (ds ++ drafts_in (draft_of c.args.written o)))
    (sym c.in-None.is)
    (subst (λ l. g.S.Bookings.has_taken c.args.to.now l) (sym (append-nil ds)) has)

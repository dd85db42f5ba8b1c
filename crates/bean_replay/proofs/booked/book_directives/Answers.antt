use Rattle.std.proofs.Common.{◌≤◌, length, reverse, ap, arith, refl, sym, ◌∙◌, subst}
use Rattle.std.proofs.lemmas.Result.{IfOk-weaker}
use Rattle.std.specs.List.{AllByRecursion}
use Rattle.limits.specs.declared.counts.TheConstants.{MOST_POSTINGS}
use Rattle.bean_loaded.specs.Limited.{IsSmall}
use Rattle.bean_accounts.proofs.LogFacts.{asked_as_before}
use Rattle.bean_replay.specs.Booked.{IsBooked, IsFinished, method_in_ledger}
use Rattle.bean_replay.specs.Small.{IsSmallNoted}
use Rattle.bean_replay.specs.Stand.{LeadsTo}
use Rattle.bean_replay.proofs.SmallBookedFacts.{pads_are_small}
use Rattle.bean_replay.proofs.booked.book_directives.Goals as goal

pub take_all-requires : goal.take_all-requires
take_all-requires g c = λ k.
    let few : length c.args.loaded.directives ≤ 67108864 = c.into_directives.ensures.few in
    let same = ap length c.into_directives.ensures.directives in (
      (refl, tt),
      (
        omega (arith, few, same),
        (
          subst (AllByRecursion IsSmall) (sym c.into_directives.ensures.directives)
              c.into_directives.ensures.small,
          c.requires,
        ),
      ),
    )

pub returns-in-Ok-clause-booked : goal.returns-in-Ok-clause-booked
returns-in-Ok-clause-booked g c =
    let l = c.args.loaded in
    let m = method_in_ledger l in
    let own = c.into_directives.ensures.directives in
    let all = c.in-Ok.ensures.leads m c.in_ok-methods.ensures.methods in
    let led = all.1 in
    let before = c.args.faults in
    IfOk-weaker c.finish.result (IsFinished g.S.Bookings before l all.0) (IsBooked g.S.Bookings before l)
    (λ b finished. record {
      stand = all.0;
      leads = subst (λ ds. LeadsTo m (reverse ds) all.0) own led.leads;
      few = subst (λ n. n ≤ MOST_POSTINGS) led.stands.count led.stands.room.few;
      finished = finished;
    })
    (c.finish.ensures.booked l before c.in_ok-methods.ensures.faults
    (c.in-Ok.ensures.asked ∙ asked_as_before before _ _ c.in_ok-methods.ensures.faults) m
    (reverse c.into_directives.result.items) all.0 led)

pub returns-in-Ok-clause-small : goal.returns-in-Ok-clause-small
returns-in-Ok-clause-small g c =
    let l = c.args.loaded in
    IfOk-weaker c.finish.result (IsBooked g.S.Bookings c.args.faults l)
    (λ b. AllByRecursion IsSmallNoted b.pads)
    (λ b booked.
    subst (AllByRecursion IsSmallNoted) (sym booked.finished.pads_are)
    (pads_are_small (method_in_ledger l) l.directives booked.stand booked.leads
    c.into_directives.ensures.small))
    (returns-in-Ok-clause-booked g c)

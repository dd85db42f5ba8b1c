use Rattle.std.proofs.Common.{◌∷◌, ◌≤◌, Err, ap, length, refl, subst, sym}
use Rattle.std.specs.List.{AllByRecursion}
use Rattle.limits.specs.declared.counts.TheConstants.{MOST_POSTINGS}
use Rattle.bean_replay.specs.Booker.{draft_of, drafts_in}
use Rattle.bean_replay.specs.Small.{IsSmallDraft}
use Rattle.bean_replay.specs.Stand.{postings_of}
use Rattle.bean_replay.proofs.FullFacts.{fault_of}
use Rattle.bean_replay.proofs.SmallBookedFacts.{stand_small}
use Rattle.bean_replay.proofs.SmallListFacts.{all_behind}
use Rattle.bean_replay.proofs.TakeFacts.{booked_step, full_step}
use Rattle.bean_replay.proofs.handed.take_transaction.Goals as goal

pub book-requires : goal.book-requires
book-requires g c =
    let z = c.requires.stands in record {
      method_of = z.0;
      past = z.1;
      stand = z.2;
      is = z.3.stands;
      few = z.7;
    }

pub hand_over-requires : goal.hand_over-requires
hand_over-requires g c = λ k.
    let z = c.requires.stands in
    let next =
    booked_step z.0 z.1 z.2 z.4 c.args.written _ _ z.5
    (c.in-Ok.ensures.standing z.0 z.1 z.2 z.3.stands) in
    let small = stand_small z.0 (z.4 ∷ z.1) next.0 (z.2, z.3.leads, next.1) z.6 in (
      (refl, tt),
      (
        all_behind IsSmallDraft z.2.drafts (drafts_in (draft_of c.args.written c.in-Ok.postings))
            (subst (AllByRecursion IsSmallDraft) next.2.adds small.0),
        (
          z.2.drafts,
          z.3.taken,
          subst (λ l. length (postings_of l) ≤ MOST_POSTINGS) next.2.adds
              (subst (λ n. n ≤ MOST_POSTINGS) next.2.stands.count next.2.stands.room.few),
        ),
      ),
    )

pub returns-in_ok-hand_over-in-Ok-clause-led : goal.returns-in_ok-hand_over-in-Ok-clause-led
returns-in_ok-hand_over-in-Ok-clause-led g c = λ m past st led d own.
    let next =
    booked_step m past st d c.args.written _ _ own (c.in-Ok.ensures.standing m past st led.stands) in (
      next.0,
      record {
        leads = (st, led.leads, next.1);
        stands = c.hand_over.ensures.standing m (d ∷ past) next.0 next.2.stands;
        taken = subst (λ l. g.S.Bookings.has_taken c.hand_over.new.to l) (sym next.2.adds)
            (c.in_ok-hand_over-in-Ok.ensures.taken st.drafts led.taken);
      },
    )

pub returns-in-Err-clause-full : goal.returns-in-Err-clause-full
returns-in-Err-clause-full g c = λ is_full m past st led d own new step.
    full_step m past st d c.args.written own new step
    (c.in-Err.ensures.full (ap Err (ap fault_of is_full)) m past st led.stands)

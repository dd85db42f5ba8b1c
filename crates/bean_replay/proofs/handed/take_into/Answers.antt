use Rattle.std.proofs.Common.{◌∷◌, OnOk, refl, subst, sym}
use Rattle.bean_replay.specs.Booker.{IsLed}
use Rattle.bean_replay.specs.Stand.{Stand}
use Rattle.bean_replay.specs.Watched.{IsWatched}
use Rattle.bean_replay.proofs.handed.take_into.Goals as goal

pub take_transaction-requires : goal.take_transaction-requires
take_transaction-requires g c = λ k.
    let z = c.requires.stands in (
      (refl, tt),
      (z.0, z.1, z.2, z.3, c.args.placed, c.in-Ok.ensures.transaction, z.4, z.5),
    )

pub take_other-requires : goal.take_other-requires
take_other-requires g c = λ k.
    let z = c.requires.stands in (
      (refl, tt),
      (
        record {
          method_of = z.0;
          past = z.1;
          stand = z.2;
          is = z.3.stands;
          few = z.5;
        },
        (
          subst (IsWatched c.args.booker.now.watched) (sym c.in-Err.ensures.same) c.requires.watched,
          c.in-Err.ensures.other,
        ),
      ),
    )

pub returns-in-Ok-clause-led : goal.returns-in-Ok-clause-led
returns-in-Ok-clause-led g c = λ m past st led.
    c.take_transaction.ensures.led m past st led c.args.placed c.in-Ok.ensures.transaction

pub returns-in-Err-clause-led : goal.returns-in-Err-clause-led
returns-in-Err-clause-led g c = λ m past st led.
    subst
    (λ d. OnOk c.take_other.result
    ((new : Stand) × IsLed g.S.Bookings m (d ∷ past) new c.take_other.new.booker c.take_other.new.to))
    c.in-Err.ensures.same (c.take_other.ensures.led m past st led)

pub returns-in-Ok-clause-full : goal.returns-in-Ok-clause-full
returns-in-Ok-clause-full g c = λ is_full m past st led new step.
    c.take_transaction.ensures.full is_full m past st led c.args.placed c.in-Ok.ensures.transaction
    new step

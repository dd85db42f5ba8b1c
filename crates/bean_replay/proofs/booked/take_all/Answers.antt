use Rattle.std.proofs.Common.{◌≡◌, ◌++◌, ◌∷◌, [], Err, reverse, ap, arith, refl, sym, subst}
use Rattle.std.proofs.Common.{append_assoc, length, length-append, ◌∙◌}
use Rattle.std.proofs.lemmas.List.{append-nil, length-reverse, reverse-append}
use Rattle.std.specs.List.{AllByRecursion}
use Rattle.bean_loaded.specs.Limited.{IsSmall}
use Rattle.bean_accounts.specs.Methods.{method_in}
use Rattle.bean_replay.proofs.FullFacts.{fault_of, full_for_good}
use Rattle.bean_replay.proofs.SmallListFacts.{all_behind, all_front, all_reversed}
use Rattle.bean_replay.proofs.StepFacts.{empty}
use Rattle.bean_replay.specs.Booker.{IsLed}
use Rattle.bean_replay.specs.Stand.{LeadsTo, Stand, start}
use Rattle.bean_replay.specs.Watched.{IsWatched}
use Rattle.bean_replay.proofs.booked.take_all.Goals as goal

pub take_into-requires : goal.take_into-requires
take_into-requires g c = λ k.
    let before = c.loop-placed.yielded in
    let after = c.next.new.self.rest.items in
    let led = c.loop-placed.invariant.leads (method_in c.args.methods) (λ a. refl) in
    let whole = ap length c.loop-placed.invariant.whole in
    let parts = length-append before c.loop-placed.placed-iterator.rest.items in
    let turned = length-reverse before in
    let next = c.in-Some.ensures.steps.0 in
    let small =
    subst (AllByRecursion IsSmall)
    (sym c.loop-placed.invariant.whole ∙ ap (λ l. before ++ l) next) c.requires.small in (
      (refl, tt),
      (
        (
          method_in c.args.methods,
          reverse before,
          led.0,
          led.1,
          (
            (all_behind IsSmall before (c.in-Some.placed ∷ after) small).0,
            all_reversed IsSmall before
                (all_front IsSmall before (c.in-Some.placed ∷ after) small),
          ),
          let few = c.requires.few in omega (arith, few, whole, parts, turned),
        ),
        (subst (AllByRecursion (IsWatched c.loop-placed.booker.watched)) next
            c.loop-placed.invariant.watched).0,
      ),
    )

pub loop-placed-init : goal.loop-placed-init
loop-placed-init g c =
    let items = c.into_iter-placed-iterator.ensures.into_iter_gives.0 in record {
      whole = items;
      watched =
          subst (AllByRecursion (IsWatched c.new-booker.result.watched)) (sym items)
          (subst (λ w. AllByRecursion (IsWatched w) c.args.directives.items)
          (sym (ap (λ a. a.0) c.new-booker.ensures.asks))
          (subst (AllByRecursion (IsWatched c.are_watched-watched.result)) c.deref.ensures.value
          c.are_watched-watched.ensures));
      asked = ap (λ a. a.1) c.new-booker.ensures.asks;
      leads = λ m methods. (
        start,
        record {
          leads = refl;
          stands = c.new-booker.ensures.stands m methods;
          taken = c.requires.new;
        },
      );
    }

pub loop-placed-preserved : goal.loop-placed-preserved
loop-placed-preserved g c =
    let before = c.loop-placed.yielded in
    let after = c.next.new.self.rest.items in record {
      whole =
          append_assoc before (c.in-Some.placed ∷ []) after
          ∙ ap (λ l. before ++ l) (sym c.in-Some.ensures.steps.0)
          ∙ c.loop-placed.invariant.whole;
      watched =
          subst (λ w. AllByRecursion (IsWatched w) after) (sym (ap (λ a. a.0) c.in-Ok.ensures.asks))
          (subst (AllByRecursion (IsWatched c.loop-placed.booker.watched)) c.in-Some.ensures.steps.0
          c.loop-placed.invariant.watched).1;
      asked = ap (λ a. a.1) c.in-Ok.ensures.asks ∙ c.loop-placed.invariant.asked;
      leads = λ m methods.
          let booker = c.take_into.new.booker in
          let bookings = c.take_into.new.to in
          let led = c.loop-placed.invariant.leads m methods in
          subst (λ past. (st : Stand) × IsLed g.S.Bookings m past st booker bookings)
          (sym (reverse-append before (c.in-Some.placed ∷ [])))
          (c.in-Ok.ensures.led m (reverse before) led.0 led.1);
    }

pub returns-clause-stands : goal.returns-clause-stands
returns-clause-stands g c =
    let whole = ap length c.loop-placed.invariant.whole in
    let parts = length-append c.loop-placed.yielded c.loop-placed.placed-iterator.rest.items in
    let led = c.loop-placed.invariant.leads (method_in c.args.methods) (λ a. refl) in
    let turned = length-reverse c.loop-placed.yielded in record {
      method_of = method_in c.args.methods;
      past = reverse c.loop-placed.yielded;
      stand = led.0;
      is = led.1.stands;
      few = let few = c.requires.few in omega (arith, few, turned, whole, parts);
    }

pub returns-clause-leads : goal.returns-clause-leads
returns-clause-leads g c = λ m methods.
    let left = c.loop-placed.placed-iterator.rest in
    let count = left.ok.0 in
    let done = c.in-None.ensures.steps.0 in
    let none = empty left.items (omega (arith, count, done)) in
    let all : c.loop-placed.yielded ≡ c.args.directives.items =
    sym (append-nil c.loop-placed.yielded)
    ∙ ap (λ l. c.loop-placed.yielded ++ l) (sym none) ∙ c.loop-placed.invariant.whole in
    subst (λ l. (st : Stand)
    × IsLed g.S.Bookings m (reverse l) st c.loop-placed.booker c.loop-placed.bookings) all
    (c.loop-placed.invariant.leads m methods)

pub returns-in-Err-clause-full : goal.returns-in-Err-clause-full
returns-in-Err-clause-full g c = λ is_full m methods st all.
    let before = c.loop-placed.yielded in
    let after = c.next.new.self.rest.items in
    let d = c.in-Some.placed in
    let next = c.in-Some.ensures.steps.0 in
    let led = c.loop-placed.invariant.leads m methods in
    let full =
    c.in-Err.ensures.full (ap Err (ap fault_of is_full)) m (reverse before) led.0 led.1 in
    full_for_good m before after d led.0 st led.1.leads full
    (subst (λ l. LeadsTo m (reverse l) st)
    (sym c.loop-placed.invariant.whole ∙ ap (λ l. before ++ l) next) all)

use Rattle.std.proofs.Common.{ap, subst, sym}
use Rattle.bean_directives.specs.declared.directive.Directive.{Directive}
use Rattle.bean_replay.proofs.handed.take_other.Goals as goal

pub returns-clause-led : goal.returns-clause-led
returns-clause-led g c = λ m past st led.
    let d = c.args.placed.now in
    let same = sym c.get-directive.ensures in
    let next =
    c.in_ok-take_other.ensures.standing m past st led.stands d (ap (λ (i : Directive). i.day) same)
    (sym c.place_of.ensures) (ap (λ (i : Directive). i.kind) same) in (
      next.0,
      record {
        leads = (st, led.leads, next.1);
        stands = next.2.stands;
        taken = subst (λ l. g.S.Bookings.has_taken c.hand_pad.new.to l) (sym next.2.adds)
            (c.in_ok-hand_pad.ensures st.drafts led.taken);
      },
    )

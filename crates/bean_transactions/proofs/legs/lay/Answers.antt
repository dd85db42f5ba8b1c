use Rattle.std.proofs.Common.{arith, drop, map, subst, suc, sym, take, []}
use Rattle.bean_interp.specs.Residual.{AreInRange}
use Rattle.bean_interp.specs.Scales.{AreWeighed}
use Rattle.bean_transactions.specs.Tried as spec
use Rattle.bean_transactions.proofs.LegFacts.{mapped_split}
use Rattle.bean_transactions.proofs.OutcomeFacts.{mapped_more}
use Rattle.bean_transactions.proofs.legs.lay.Goals as goal

pub loop-one-preserved : goal.loop-one-preserved
loop-one-preserved c =
    let f = spec.booked_leg c.args.postings.now in
    let qs = c.args.posted.now in
    let i = c.loop-one.one-index in
    let legs = map f (take i qs) in
    record {
      weighed =
          subst (AreWeighed c.lay_one.new.scales)
          (sym (mapped_more f qs i c.one-item.result (omega arith) c.one-item.is))
          (c.in-Ok.ensures.weighed legs c.loop-one.invariant.weighed);
      noted = c.in-Ok.ensures.noted [] c.loop-one.invariant.noted;
    }

pub returns-in-Err-clause-wide : goal.returns-in-Err-clause-wide
returns-in-Err-clause-wide c = λ is range.
    let f = spec.booked_leg c.args.postings.now in
    let qs = c.args.posted.now in
    let i = c.loop-one.one-index in
    let legs = map f (take i qs) in
    let later = map f (drop (suc i) qs) in
    let split = mapped_split f qs i c.one-item.result (omega arith) c.one-item.is in
    c.in-Err.ensures.wide is legs later c.loop-one.invariant.weighed
    (subst AreInRange split range)

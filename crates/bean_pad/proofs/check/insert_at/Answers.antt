use Rattle.std.proofs.Common.{sym, subst}
use Rattle.bean_pad.specs.Standing.{all_inserted}
use Rattle.bean_pad.specs.Sums.{Holds}
use Rattle.bean_pad.proofs.InsertedFacts.{inserted_behind, inserted_there}
use Rattle.bean_pad.proofs.check.insert_at.Goals as goal

pub returns-in_default-clause-holds : goal.returns-in_default-clause-holds
returns-in_default-clause-holds c = λ us h.
    subst (λ l. Holds l c.args.sums.now)
    (sym (inserted_behind c.args.pads.now c.args.number us c.in_default.ensures.lookup.0)) h

pub returns-clause-holds : goal.returns-clause-holds
returns-clause-holds c = λ us h.
    let p = c.in-Some.pad.now in
    let all =
    subst (λ ns. Holds (all_inserted p.pad ns us) c.insert_all.new.sums) c.as_slice.ensures
    (c.in_ok-insert_all.ensures.holds us h) in
    subst (λ l. Holds l c.insert_all.new.sums)
    (sym (inserted_there c.args.pads.now c.args.number p us c.in-Some.ensures.lookup.0
    c.in-Some.ensures.lookup.1)) all

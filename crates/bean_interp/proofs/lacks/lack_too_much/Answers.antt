use Rattle.std.proofs.Common.{◌≡◌, ◌+◌, ◌||◌, ◌∙◌, false, true, take, arith, rules, ap, sym}
use Rattle.std.specs.List.{list_any}
use Rattle.bean_interp.specs.Lacking.{clash}
use Rattle.bean_interp.specs.declared.leg.Leg.{Leg}
use Rattle.bean_interp.proofs.LackingFacts.{next_lacked, renamed, too_much_next, whole_too_much}
use Rattle.bean_interp.proofs.lacks.lack_too_much.Goals as goal

pub returns-then-clashes : goal.returns-then-clashes
returns-then-clashes c =
    let legs = c.args.legs.now in
    let i = c.loop-leg.leg-index in
    let leg = c.leg-item.result in
    let yes : c.clashes.result ≡ true = search rules in
    let here = ap (λ (l : Leg). list_any (clash l) (take i legs)) (sym c.leg-item.is)
    ∙ sym (c.clashes.ensures (take i legs) c.loop-leg.invariant.are) ∙ yes in
    sym (whole_too_much legs (i + 1)
    (too_much_next legs i leg (omega arith) ∙ (λ k. c.loop-leg.invariant.not_yet k || here k)))

pub loop-leg-preserved : goal.loop-leg-preserved
loop-leg-preserved c =
    let legs = c.args.legs.now in
    let i = c.loop-leg.leg-index in
    let leg = c.leg-item.result in
    let no : c.clashes.result ≡ false = search rules in
    let here = ap (λ (l : Leg). list_any (clash l) (take i legs)) (sym c.leg-item.is)
    ∙ sym (c.clashes.ensures (take i legs) c.loop-leg.invariant.are) ∙ no in
    record {
      are = next_lacked c.add.new.self legs i leg (omega arith)
          (renamed c.add.new.self (take i legs) _ leg (sym c.leg-item.is)
          (c.in_ok-add.ensures (take i legs) c.loop-leg.invariant.are));
      not_yet =
          too_much_next legs i leg (omega arith) ∙ (λ k. c.loop-leg.invariant.not_yet k || here k);
    }

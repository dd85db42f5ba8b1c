use Rattle.std.proofs.Common.{ap, lit<, map, reverse, sym, ◌∙◌}
use Rattle.std.proofs.lemmas.Iterator.Consumers.{YieldsList-at, YieldsList-end}
use Rattle.std.proofs.lemmas.Iterator.Splits.{YieldsList-from_str_split}
use Rattle.bean_pad.specs.Tree.{number_by}
use Rattle.bean_pad.proofs.TreeFacts.{grown_more, longer_by, one_longer, within}
use Rattle.bean_pad.proofs.tree.Tree.add.Goals as goal

pub add_below-requires : goal.add_below-requires
add_below-requires c =
    within c.loop-component.self (reverse (map (λ part. part.now) c.loop-component.yielded))
    c.loop-component.number c.loop-component.invariant.number

pub loop-component-preserved : goal.loop-component-preserved
loop-component-preserved c =
    let component = c.in-Some.component in
    record {
      grows = grown_more _ _ _ c.loop-component.invariant.grows c.add_below.ensures.grows;
      number =
          ap (number_by c.add_below.new.self)
          (one_longer (λ part. part.now) c.loop-component.yielded component)
          ∙ longer_by _ _ c.add_below.ensures.grows component.now
          (reverse (map (λ part. part.now) c.loop-component.yielded)) c.loop-component.number
          c.in_ok-number.number c.loop-component.invariant.number c.in_ok-number.ensures.number;
    }

pub returns-clause-number : goal.returns-clause-number
returns-clause-number c =
    let end =
    YieldsList-end
    (YieldsList-at c.into_iter-component-iterator.ensures.into_iter_gives
    (YieldsList-from_str_split 58 c.args.name.now (lit< tt) c.split-component-items.ensures.text
    c.split-component-items.ensures.has_more c.split-component-items.ensures.pattern)) c.loop-component.yielded _
    c.loop-component.yielded_by _ _ c.in-None.is c.next.ensures.steps in
    ap (λ ps. number_by c.loop-component.self (reverse ps)) (sym end.0)
    ∙ c.loop-component.invariant.number

use Rattle.std.proofs.Common.{ap, lit<, reverse, ◌∙◌}
use Rattle.std.proofs.lemmas.Iterator.Consumers.{YieldsList-at, YieldsList-end}
use Rattle.std.proofs.lemmas.Iterator.Splits.{YieldsList-from_str_split}
use Rattle.bean_pad.specs.Tree.{number_by}
use Rattle.bean_pad.proofs.tree.Tree.go_down.Goals as goal

pub returns : goal.returns
returns c =
    let end =
    YieldsList-end
    (YieldsList-at c.into_iter-component-iterator.ensures.into_iter_gives
    (YieldsList-from_str_split 58 c.args.name.now (lit< tt) c.split-component-items.ensures.text
    c.split-component-items.ensures.has_more c.split-component-items.ensures.pattern)) c.loop-component.yielded _
    c.loop-component.yielded_by _ _ c.in-None.is c.next.ensures.steps in
    c.loop-component.invariant ∙ ap (λ ps. number_by c.args.self.now (reverse ps)) end.0

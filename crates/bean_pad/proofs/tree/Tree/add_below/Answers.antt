use Rattle.std.proofs.Common.{◌≤◌, ap, length, subst, sym, ◌∙◌}
use Rattle.bean_pad.specs.Tree.{AreAbove, components, number_of}
use Rattle.bean_pad.specs.declared.tree.Below.{Below}
use Rattle.bean_pad.proofs.TreeFacts.{grown_by, kept_above, stays}
use Rattle.bean_pad.proofs.tree.Tree.add_below.Goals as goal

pub invariant_of-self-2 : goal.invariant_of-self-2
invariant_of-self-2 c =
    let nodes = c.self.inside.nodes.keys in
    let k : Below = record { above = c.args.above; component = c.new-component.result } in
    let few = subst (λ l. c.args.above ≤ length l) (sym c.self.view_is) c.requires in
    let grows = grown_by nodes k in
    let new = c.in_ok-index.ensures.keys in record {
      above = subst AreAbove (sym new) (kept_above nodes k c.self.invariant.above few);
      are_known = λ name n h.
          ap (λ l. number_of l name) (new ∙ grows.1)
          ∙ stays nodes grows.0 (components name) n (c.self.invariant.are_known name n h);
    }

use Rattle.std.proofs.Common.{◌≡◌, suc, ◌-◌, ◌∷◌, Some, ap, sym, ◌∙◌, arith}
use Rattle.std.proofs.lemmas.Option.{get_or_from_slice_get}
use Rattle.bean_pad.specs.Tree.{number_by}
use Rattle.bean_pad.proofs.TreeFacts.{above_at}
use Rattle.bean_pad.proofs.tree.Tree.above.Goals as goal

pub returns-in-Some-clause-above : goal.returns-in-Some-clause-above
returns-in-Some-clause-above c = λ d cs h.
    let nodes = c.self.inside.nodes.keys in
    let i = c.args.number - 1 in
    let below = c.in-Some.below.now in
    let n : c.args.number ≡ suc i = (let some = c.requires in omega (arith, some)) in
    let at =
    above_at nodes d cs i below (ap (λ l. number_by l (d ∷ cs)) c.self.view_is ∙ h ∙ ap Some n) in
    ap (λ l. number_by l cs) (sym c.self.view_is)
    ∙ at.1
    ∙ ap (λ k. Some k.above) (get_or_from_slice_get nodes i below below (sym c.in-Some.ensures.key))

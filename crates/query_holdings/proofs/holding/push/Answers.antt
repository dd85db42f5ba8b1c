use Rattle.std.proofs.Common.{◌≡◌, ◌∷◌, ◌++◌, [], to_z, of_z, arith, ap, ◌∙◌}
use Rattle.std.specs.Int.{w128}
use Rattle.std.proofs.lemmas.Int.{ints}
use Rattle.indexmap.proofs.MapLemmas.{OnOk-map}
use Rattle.bean_lots.specs.Slots.{positions}
use Rattle.query_holdings.proofs.HoldingFacts.{last}
use Rattle.query_holdings.proofs.holding.push.Goals as goal

pub returns-clause-ok : goal.returns-clause-ok
returns-clause-ok c =
    let es = c.args.counts.now in
    let wide : to_z w128 (of_z w128 c.args.count) ≡ c.args.count = omega (arith, ints) in
    OnOk-map c.push.result _ _
    (λ is. ap positions (is ∙ ap (λ n. es ++ (c.args.key, n) ∷ []) wide)
    ∙ last es c.args.key c.args.count c.requires) c.push.ensures.ok

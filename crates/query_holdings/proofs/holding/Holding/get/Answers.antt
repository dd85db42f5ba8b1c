use Rattle.std.proofs.Common.{◌≡◌, pos, unwrap_or, to_z, of_z, arith, sym, ap, ◌∙◌}
use Rattle.std.specs.Int.{w128}
use Rattle.std.proofs.lemmas.Int.{ints}
use Rattle.bean_lots.specs.Inventory.{count_of}
use Rattle.bean_lots.proofs.SlotFacts.{counted}
use Rattle.query_holdings.proofs.holding.Holding.get.Goals as goal

pub returns-in-Some : goal.returns-in-Some
returns-in-Some c =
    let count : to_z w128 (of_z w128 c.count_at.result) ≡ c.count_at.result = omega (arith, ints) in
    count ∙ ap (λ o. unwrap_or o (pos 0)) (sym c.count_at.ensures ∙ c.in-Some.ensures.value)
    ∙ sym (counted c.self.inside.counts c.args.key.now c.place_of.ensures.unique)
    ∙ ap (λ es. count_of es c.args.key.now) c.self.view_is

pub returns-in-None : goal.returns-in-None
returns-in-None c =
    ap (λ o. unwrap_or o (pos 0)) (sym c.in-None.ensures.none)
    ∙ sym (counted c.self.inside.counts c.args.key.now c.place_of.ensures.unique)
    ∙ ap (λ es. count_of es c.args.key.now) c.self.view_is

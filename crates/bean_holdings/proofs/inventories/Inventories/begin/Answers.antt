use Rattle.std.proofs.Common.{◌≡◌, [], to_z, of_z, arith, ap, sym, ◌∙◌}
use Rattle.std.specs.Int.{w128}
use Rattle.std.proofs.lemmas.Int.{ints}
use Rattle.indexmap.proofs.MapLemmas.{OnOk-map}
use Rattle.bean_lots.specs.Inventory.{added}
use Rattle.bean_holdings.specs.Inventories.{inventory_in}
use Rattle.bean_holdings.proofs.BoundFacts.{added_at}
use Rattle.bean_holdings.proofs.inventories.Inventories.begin.Goals as goal

pub returns : goal.returns
returns c =
    let i = c.args.self.now in
    let count : to_z w128 (of_z w128 c.args.count) ≡ c.args.count = omega (arith, ints) in
    OnOk-map c.put.result _ _ (λ put a.
    added_at (inventory_in i) c.args.account a [] c.add.new.self _ c.args.key c.args.count _
    (sym c.requires)
    (c.in_ok-add.ensures.ok
    ∙ ap (λ es. added es c.args.key (to_z w128 (of_z w128 c.args.count))) c.new-inventory.ensures)
    count (put a))
    c.put.ensures

use Rattle.std.proofs.Common.{◌≡◌, ◌∙◌, to_z, of_z, arith, ap}
use Rattle.std.specs.Int.{w128}
use Rattle.std.proofs.lemmas.Int.{ints}
use Rattle.indexmap.specs.IndexMap.{set_value_at}
use Rattle.bean_lots.specs.Inventory.{added}
use Rattle.bean_lots.specs.Slots.{positions}
use Rattle.bean_lots.proofs.SlotFacts as slot
use Rattle.bean_inventories.proofs.KeptFacts as kept
use Rattle.bean_inventories.proofs.inventory.slots.Slots.fill.Goals as goal

pub recount-requires-clause-counted : goal.recount-requires-clause-counted
recount-requires-clause-counted c = kept.nothing_counted c.args.self.now c.args.key.now

pub returns-clause-kept : goal.returns-clause-kept
returns-clause-kept c =
    let n = to_z w128 (of_z w128 c.args.count) in
    kept.filled c.args.self.now _ c.args.key.now c.args.index n c.requires.kept c.requires.at
    c.requires.hole
    (c.set.ensures ∙ ap (λ l. set_value_at l c.args.index n) c.recount.ensures.counts)
    (omega (arith, c.min-self.ensures, c.recount.ensures.first))
    (omega (arith, c.min-self.ensures)) c.recount.ensures.days c.recount.ensures.told
    c.in_ok-recount.ensures.ok

pub returns-clause-ok : goal.returns-clause-ok
returns-clause-ok c =
    let es = c.args.self.now.counts in
    let k = c.args.key.now in
    let n = to_z w128 (of_z w128 c.args.count) in
    let wide : n ≡ c.args.count = omega (arith, ints) in
    ap positions
    (c.set.ensures ∙ ap (λ l. set_value_at l c.args.index n) c.recount.ensures.counts
    ∙ slot.written es k c.args.index n c.requires.at)
    ∙ slot.last_key es c.args.index k n c.requires.at c.requires.hole c.requires.last
    ∙ ap (added (positions es) k) wide

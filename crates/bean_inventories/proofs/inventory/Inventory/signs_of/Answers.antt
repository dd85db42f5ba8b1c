use Rattle.std.proofs.Common.{ap, ◌∙◌, arith, length}
use Rattle.bean_lots.specs.Inventory.{long_lot, long_lots, short_lot, short_lots}
use Rattle.bean_inventories.proofs.HeldFacts.{in_slots, no_more_held}
use Rattle.bean_inventories.proofs.TallyFacts.{not_long, not_short}
use Rattle.bean_inventories.proofs.inventory.Inventory.signs_of.Goals as goal

pub returns-clause-long : goal.returns-clause-long
returns-clause-long c =
    let cur = c.args.currency.now in
    ap (λ s. s.long) c.signs_of.ensures.signs ∙ c.self.invariant.long cur
    ∙ in_slots (long_lot cur) (not_long cur) c.self.inside.slots.counts
    ∙ ap (long_lots cur) c.self.view_is

pub returns-clause-short : goal.returns-clause-short
returns-clause-short c =
    let cur = c.args.currency.now in
    ap (λ s. s.short) c.signs_of.ensures.signs ∙ c.self.invariant.short cur
    ∙ in_slots (short_lot cur) (not_short cur) c.self.inside.slots.counts
    ∙ ap (short_lots cur) c.self.view_is

pub returns-clause-few : goal.returns-clause-few
returns-clause-few c =
    let es = c.self.inside.slots.counts in
    let fewer = no_more_held es in
    let same = ap length c.self.view_is in
    let all = c.signs_of.ensures.few in
    omega (arith, fewer, same, all)

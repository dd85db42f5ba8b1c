use Rattle.std.proofs.Common.{arith}
use Rattle.bean_inventories.proofs.KeptFacts as kept
use Rattle.bean_inventories.proofs.inventory.slots.Slots.recount.Goals as goal

pub recount-requires-clause-few : goal.recount-requires-clause-few
recount-requires-clause-few c =
    kept.few c.args.self.now c.requires.kept
    (omega (arith, c.len-slots.ensures.len, c.len-slots.ensures.few))

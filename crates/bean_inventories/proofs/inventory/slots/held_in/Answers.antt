use Rattle.std.proofs.Common.{arith, ap, length}
use Rattle.std.proofs.lemmas.List.{length-drop}
use Rattle.bean_inventories.proofs.inventory.slots.held_in.Goals as goal

pub split_at-own-requires : goal.split_at-own-requires
split_at-own-requires c =
    let behind = ap length c.split_at-behind.ensures.back in
    let all = length-drop c.args.index c.args.slots.now in
    omega (arith, behind, all, c.requires)

use Rattle.std.proofs.Common.{◌≡◌, ◌≤◌, filter, length, take}
use Rattle.bean_lots.specs.Slots.{is_full}
use Rattle.bean_inventories.proofs.inventory.slots.Slots.end_of_held.Given as goal

abbrev pub invariant-loop-end : goal.invariant-loop-end
invariant-loop-end l = record {
  inside : l.end ≤ length l.self.counts;
  same : filter is_full (take l.end l.self.counts)
      ≡ filter is_full l.self.counts;
}

abbrev pub decreases-loop-end : goal.decreases-loop-end
decreases-loop-end l = l.end

use Rattle.std.proofs.Common.{◌≡◌, ◌-◌, length}
use Rattle.bean_inventories.specs.Kept.{IsKept}
use Rattle.bean_inventories.proofs.inventory.slots.Slots.pass_holes.Given as goal

abbrev pub invariant-loop-self : goal.invariant-loop-self
invariant-loop-self l = record {
  counts : l.self.counts ≡ l.initial.self.counts;
  kept : IsKept l.self;
}

abbrev pub decreases-loop-self : goal.decreases-loop-self
decreases-loop-self l = length l.self.counts - l.self.first

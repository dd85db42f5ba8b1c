use Rattle.std.proofs.Common.{◌≡◌, pos, Some, arith, ◌∙◌, ap, add-one}
use Rattle.std.proofs.lemmas.Int.{ints}
use Rattle.bean_lots.proofs.SlotFacts.{one_hole_more}
use Rattle.bean_inventories.proofs.inventory.slots.Slots.pass_holes.Goals as goal

pub loop-self-preserved : goal.loop-self-preserved
loop-self-preserved c =
    let s = c.loop-self.self in
    let h = c.loop-self.invariant.kept in
    let zero : c.count_at.result ≡ pos 0 = grind (arith, ints, c.if-count_at-eq0.true) in
    record {
      counts = c.loop-self.invariant.counts;
      kept = record {
        holes =
            rw add-one
            (one_hole_more s.first s.counts h.holes (c.count_at.ensures ∙ ap Some zero));
        long = h.long;
        short = h.short;
        days = h.days;
        told = h.told;
      };
    }

use Rattle.std.proofs.Common.{◌≡◌, ◌-◌, pos, suc, Some, filter, take, arith, ◌∙◌, ap}
use Rattle.std.proofs.lemmas.Int.{ints}
use Rattle.bean_lots.specs.Slots.{is_full}
use Rattle.bean_inventories.proofs.EndFacts.{last_hole}
use Rattle.bean_inventories.proofs.inventory.slots.Slots.end_of_held.Goals as goal

pub loop-end-preserved : goal.loop-end-preserved
loop-end-preserved c =
    let es = c.args.self.now.counts in
    let i = c.loop-end.end - 1 in
    let next : suc i ≡ c.loop-end.end = omega (arith, c.loop-end-test.true) in
    let zero : c.count_at.result ≡ pos 0 = grind (arith, ints, c.if-count_at-eq0.true) in
    record {
      inside = omega (arith, c.loop-end.invariant.inside);
      same =
          last_hole es i (c.count_at.ensures ∙ ap Some zero)
          ∙ ap (λ j. filter is_full (take j es)) next ∙ c.loop-end.invariant.same;
    }

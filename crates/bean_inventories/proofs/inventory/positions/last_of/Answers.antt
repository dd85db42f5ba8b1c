use Rattle.std.proofs.Common.{◌≡◌, ◌+◌, ◌-◌, pos, ◌∷◌, ◌++◌, [], take, suc, false, to_z, of_z}
use Rattle.std.proofs.Common.{arith, ◌∙◌, ap, sym}
use Rattle.std.specs.Int.{w128}
use Rattle.std.specs.Ordering.{int_eq}
use Rattle.std.proofs.lemmas.Int.{ints}
use Rattle.bean_lots.specs.Slots.{positions}
use Rattle.bean_inventories.proofs.EndFacts.{full_before, hole_before}
use Rattle.bean_inventories.proofs.inventory.positions.last_of.Goals as goal

pub returns-then-count-ne0-clause-some : goal.returns-then-count-ne0-clause-some
returns-then-count-ne0-clause-some c =
    let es = c.args.slots.now in
    let i = c.loop-index.index - 1 in
    let next : suc i ≡ c.loop-index.index = omega (arith, c.loop-index-test.true) in
    let own : i ≡ (i + 1) - 1 = omega arith in
    let k = c.slot_at-count.result.0.now in
    let n = c.slot_at-count.result.1 in
    let some : int_eq n (pos 0) ≡ false = grind (arith, ints, c.if-count-ne0.true) in
    let count : n ≡ to_z w128 (of_z w128 n) = omega (arith, ints) in
    sym (ap (λ j. positions (take j es)) next ∙ c.loop-index.invariant.same)
    ∙ full_before es i k n c.slot_at-count.ensures some
    ∙ ap (λ m. positions (take i es) ++ record { key = k; count = m } ∷ []) count
    ∙ ap (λ j. positions (take j es) ++ record { key = k; count = to_z w128 (of_z w128 n) } ∷ []) own

pub returns-then-count-ne0-clause-until : goal.returns-then-count-ne0-clause-until
returns-then-count-ne0-clause-until c =
    let es = c.args.slots.now in
    let i = c.loop-index.index - 1 in
    let next : i + 1 ≡ c.loop-index.index = omega (arith, c.loop-index-test.true) in
    ap (λ j. positions (take j es)) next ∙ c.loop-index.invariant.same

pub loop-index-preserved : goal.loop-index-preserved
loop-index-preserved c =
    let es = c.args.slots.now in
    let i = c.loop-index.index - 1 in
    let next : suc i ≡ c.loop-index.index = omega (arith, c.loop-index-test.true) in
    let n = c.slot_at-count.result.1 in
    let none : n ≡ pos 0 = grind (arith, ints, c.if-count-ne0.false) in
    record {
      inside = omega (arith, c.loop-index.invariant.inside);
      same =
          hole_before es i c.slot_at-count.result.0.now n c.slot_at-count.ensures none
          ∙ ap (λ j. positions (take j es)) next ∙ c.loop-index.invariant.same;
    }

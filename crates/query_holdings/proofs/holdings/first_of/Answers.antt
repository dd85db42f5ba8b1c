use Rattle.std.proofs.Common.{◌≡◌, pos, ◌∷◌, drop, suc, false, to_z, of_z, arith, ◌∙◌, ap}
use Rattle.std.proofs.Common.{add-one, sym}
use Rattle.std.specs.Int.{w128}
use Rattle.std.specs.Ordering.{int_eq}
use Rattle.std.proofs.lemmas.Int.{ints}
use Rattle.bean_lots.specs.Slots.{positions}
use Rattle.bean_lots.proofs.SlotFacts.{full_slot, hole_at}
use Rattle.query_holdings.proofs.holdings.first_of.Goals as goal

pub returns-then-count-ne0-clause-some : goal.returns-then-count-ne0-clause-some
returns-then-count-ne0-clause-some c =
    let es = c.args.slots.now in
    let i = c.loop-place.place in
    let k = c.slot_at-count.result.0.now in
    let n = c.slot_at-count.result.1 in
    let some : int_eq n (pos 0) ≡ false = grind (arith, ints, c.if-count-ne0.true) in
    let count : n ≡ to_z w128 (of_z w128 n) = omega (arith, ints) in
    rw add-one
    (sym c.loop-place.invariant ∙ full_slot es i k n c.slot_at-count.ensures some
    ∙ ap (λ m. record { key = k; count = m } ∷ positions (drop (suc i) es)) count)

pub loop-place-preserved : goal.loop-place-preserved
loop-place-preserved c =
    let n = c.slot_at-count.result.1 in
    let none : n ≡ pos 0 = grind (arith, ints, c.if-count-ne0.false) in
    rw add-one
    (hole_at c.args.slots.now c.loop-place.place c.slot_at-count.result.0.now n
    c.slot_at-count.ensures none ∙ c.loop-place.invariant)

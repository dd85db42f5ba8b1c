use Rattle.std.proofs.Common.{◌≡◌, ◌<◌, ◌^◌, ◌∷◌, ℤ, pos, ◌-ℤ◌, neg_ℤ, ap, ◌∙◌, subst, arith, to_z}
use Rattle.std.proofs.Common.{of_z}
use Rattle.std.specs.Int.{w128}
use Rattle.std.specs.Int.RustNames.{unsigned_abs}
use Rattle.std.proofs.lemmas.Int.{ints}
use Rattle.bean_base.specs.Counts.{at_8}
use Rattle.bean_pad.specs.Standing.{units}
use Rattle.bean_pad.specs.Sums.{Holds}
use Rattle.bean_pad.proofs.check.insert_both.Goals as goal

fits : (n : ℤ) → unsigned_abs n < 10 ^ 20 → to_z w128 (of_z w128 n) ≡ n
fits n h = omega (arith, ints)

opposite : (n : ℤ) → unsigned_abs n < 10 ^ 20
    → to_z w128 (of_z w128 (pos 0 -ℤ to_z w128 (of_z w128 n))) ≡ neg_ℤ n
opposite n h = omega (arith, ints)

pub returns-clause-holds : goal.returns-clause-holds
returns-clause-holds c = λ us h.
    let p = c.args.pad.now in
    let k = c.args.currency.now in
    let n = c.args.number in
    let value = c.scaled-count.ensures.value in
    let small : unsigned_abs c.scaled-count.result < 10 ^ 20 = c.scaled-count.ensures.bound in
    let first : Holds (units p.account k (at_8 n) ∷ us) c.add.new.self =
    subst (λ d. Holds (units p.account k d ∷ us) c.add.new.self)
    (fits c.scaled-count.result small ∙ value) (c.in_ok-add.ensures.holds us h) in
    subst (λ d. Holds (units p.source k d ∷ units p.account k (at_8 n) ∷ us) c.add-2.new.self)
    (opposite c.scaled-count.result small ∙ ap neg_ℤ value)
    (c.in_ok-add-2.ensures.holds _ first)

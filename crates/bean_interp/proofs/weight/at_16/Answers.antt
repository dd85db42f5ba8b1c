use Rattle.std.proofs.Common.{ap, ◌∙◌, of_z, to_z, ◌*ℤ◌, pos}
use Rattle.std.proofs.lemmas.Int.{to_z-of_z}
use Rattle.std.specs.Int.{w128}
use Rattle.bean_interp.proofs.CountFacts.{scaled_16, wide, fits_28, fits_20}
use Rattle.bean_interp.proofs.weight.at_16.Goals as goal

pub returns-clause-value : goal.returns-clause-value
returns-clause-value c =
    let n = c.scaled.result in
    let back = to_z-of_z w128 n (fits_20 n c.scaled.ensures.bound) in
    ap (λ z. to_z w128 (of_z w128 (z *ℤ pos 100000000))) back
    ∙ to_z-of_z w128 (n *ℤ pos 100000000) (fits_28 _ (wide n c.scaled.ensures.bound))
    ∙ ap (λ z. z *ℤ pos 100000000) c.scaled.ensures.value
    ∙ scaled_16 c.args.number.count c.args.number.places c.args.number.in_range.0

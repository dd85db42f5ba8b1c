use Rattle.std.proofs.Common.{rules, ◌^◌, pos, ◌*ℤ◌, FitsSigned, to_z, of_z, ap, ◌∙◌, arith}
use Rattle.std.proofs.lemmas.Int.{to_z-of_z}
use Rattle.std.specs.Int.{w128}
use Rattle.bean_base.proofs.PowerFacts.{product_is, power_split, fits_power}
use Rattle.bean_base.proofs.power.power_of_ten.Goals as goal

pub returns-else-exponent-le19 : goal.returns-else-exponent-le19
returns-else-exponent-le19 c =
    let a = c.power_to_19-else-exponent-le19 in
    let b = c.power_to_19-else-exponent-le19-2 in
    let n = c.args.exponent in
    let f : FitsSigned w128 (pos a.result) = search rules in
    let g : FitsSigned w128 (pos b.result) = search rules in
    let e =
    product_is (pos a.result) (pos b.result) f g ∙ ap (λ p. pos p *ℤ pos b.result) a.ensures
    ∙ ap (λ p. pos (10 ^ 19) *ℤ pos p) b.ensures
    ∙ ap pos (power_split n (omega arith)) in
    ap (λ z. to_z w128 (of_z w128 z)) e ∙ to_z-of_z w128 (pos (10 ^ n)) (fits_power n c.requires)

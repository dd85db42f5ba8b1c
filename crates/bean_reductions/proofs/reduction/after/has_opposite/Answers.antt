use Rattle.std.proofs.Common.{◌≡◌, nat_lt, to_z, of_z, arith, ap, sym, ◌∙◌}
use Rattle.std.specs.Int.{w128}
use Rattle.std.proofs.lemmas.Int.{ints}
use Rattle.bean_base.specs.Decimal.{scaled}
use Rattle.bean_inventories.specs.Signs.{against}
use Rattle.bean_reductions.proofs.SignFacts.{counted}
use Rattle.bean_reductions.proofs.reduction.after.has_opposite.Goals as goal

pub returns : goal.returns
returns c = λ cur es longs shorts.
    let want = scaled c.args.units.count c.args.units.places 8 in
    let wide : to_z w128 (of_z w128 c.scaled.result) ≡ want =
    omega (arith, ints, c.scaled.ensures.value) in
    ap (nat_lt 0) (c.against.ensures ∙ (λ i. against (wide i) (longs i) (shorts i)))
    ∙ sym (counted cur want es)

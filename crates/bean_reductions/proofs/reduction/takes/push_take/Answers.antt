use Rattle.std.proofs.Common.{◌≡◌, ◌++◌, ◌∷◌, [], ℕ, ℤ, map, to_z, of_z, arith, ap, ◌∙◌}
use Rattle.std.specs.Int.{w128}
use Rattle.std.proofs.lemmas.Int.{ints}
use Rattle.std.proofs.lemmas.List.{map-append}
use Rattle.bean_lots.specs.declared.lot.Lot.{Lot}
use Rattle.bean_reductions.specs.Take.{with_sign, signed_take, take_counts}
use Rattle.bean_reductions.proofs.reduction.takes.push_take.Goals as goal

pub returns : goal.returns
returns c =
    let want : to_z w128 (of_z w128 c.args.want) ≡ c.args.want = omega (arith, ints) in
    let old = c.args.takes.now.items in
    let told :
    take_counts (c.lot.result, c.number_of.result)
    ≡ signed_take c.args.want (c.args.candidate.now.0, c.args.units) =
    ap (λ (l : Lot). (l, c.number_of.result.count, c.number_of.result.places)) c.lot.ensures
    ∙ ap (λ (n : ℤ). (c.args.candidate.now.0, n, c.number_of.result.places))
    (c.number_of.ensures.count ∙ ap (λ w. with_sign w c.args.units) want)
    ∙ ap (λ (p : ℕ). (c.args.candidate.now.0, with_sign c.args.want c.args.units, p))
    c.number_of.ensures.places in
    ap (map take_counts) c.in_ok-push.ensures.items ∙ map-append take_counts old _
    ∙ ap (λ t. map take_counts old ++ t ∷ []) told

use Rattle.std.proofs.Common.{◌≡◌, ◌∙◌, sym, ap, cond, arith, to_z, of_z}
use Rattle.std.specs.Int.{w128}
use Rattle.std.proofs.lemmas.Int.{ints}
use Rattle.bean_pad.proofs.OutcomeFacts.{made}
use Rattle.bean_pad.specs.Outcome.{padding_of}
use Rattle.bean_pad.specs.declared.note.Outcome.TheVariants.{AtCost}
use Rattle.bean_pad.proofs.note.Outcome.of.Goals as goal

pub returns-in-Ok : goal.returns-in-Ok
returns-in-Ok c =
    let count : to_z w128 (of_z w128 c.args.difference) ≡ c.args.difference = omega (arith, ints) in
    made c.in-Ok.number c.args.difference (c.in-Ok.ensures.0 ∙ count) c.in-Ok.ensures.1
    ∙ ap (λ b. cond b AtCost (padding_of c.args.difference)) (sym c.if-is_at_cost.false)

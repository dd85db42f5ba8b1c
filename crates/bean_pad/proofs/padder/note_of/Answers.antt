use Rattle.std.proofs.Common.{◌≡◌, ap, ◌∙◌, arith, to_z, of_z}
use Rattle.std.specs.Int.{w128}
use Rattle.std.proofs.lemmas.Int.{ints}
use Rattle.bean_pad.specs.Outcome.{outcome_of}
use Rattle.bean_pad.proofs.padder.note_of.Goals as goal

pub returns : goal.returns
returns c =
    let fits : to_z w128 (of_z w128 c.args.difference) ≡ c.args.difference = omega (arith, ints) in
    λ i. record {
      currency = c.lend.ensures i;
      outcome = (c.of.ensures ∙ ap (λ d. outcome_of d c.args.is_at_cost) fits) i;
    }

use Rattle.bql_code.proofs.FormFacts.{pattern_fits}
use Rattle.std.proofs.Math.Logic.{∥∥₁_elim, ∥∥₁_prop}
use Rattle.bql_code.proofs.entry.Entry.pattern.Goals as goal

pub invariant_of-result : goal.invariant_of-result
invariant_of-result c = record {
  has_form =
      ∥∥₁_elim c.args.text.has_form ∥∥₁_prop (λ fits. ∣ pattern_fits c.args.text.text fits ∣₁);
}

use Rattle.bql_code.proofs.FormFacts.{number_fits}
use Rattle.bql_code.proofs.entry.Entry.number.Goals as goal

pub invariant_of-result : goal.invariant_of-result
invariant_of-result c = record { has_form = ∣ number_fits c.args.number ∣₁ }

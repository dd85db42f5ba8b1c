use Rattle.bql_code.proofs.FormFacts.{day_fits}
use Rattle.bql_code.proofs.entry.Entry.day.Goals as goal

pub invariant_of-result : goal.invariant_of-result
invariant_of-result c = record { has_form = ∣ day_fits c.args.day ∣₁ }

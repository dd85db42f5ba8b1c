use Rattle.bql_code.proofs.FormFacts.{days_fit}
use Rattle.bql_code.proofs.entry.Entry.days.Goals as goal

pub invariant_of-result : goal.invariant_of-result
invariant_of-result c = record { has_form = ∣ days_fit c.args.days c.requires.some c.requires.few ∣₁ }

use Rattle.bql_code.proofs.FormFacts.{texts_fit}
use Rattle.bql_code.proofs.entry.Entry.texts.Goals as goal

pub invariant_of-result : goal.invariant_of-result
invariant_of-result c = record { has_form = texts_fit c.args.texts c.requires.some c.requires.few }

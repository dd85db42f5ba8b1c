use Rattle.bql_compiler.proofs.NameFacts.{forms_of}
use Rattle.bql_compiler.proofs.output.slices_of.Goals as goal

pub returns-clause-forms : goal.returns-clause-forms
returns-clause-forms c = forms_of c.slices.result c.args.texts.now c.slices.ensures

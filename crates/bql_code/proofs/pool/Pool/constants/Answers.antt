use Rattle.bql_code.proofs.FormFacts.{forms_of}
use Rattle.bql_code.proofs.pool.Pool.constants.Goals as goal

pub returns-clause-forms : goal.returns-clause-forms
returns-clause-forms c = forms_of c.constants.result c.as_slice.result.now c.constants.ensures

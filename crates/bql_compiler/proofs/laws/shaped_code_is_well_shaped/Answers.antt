use Rattle.bql_compiler.proofs.CodeProgramFacts.{is_depth}
use Rattle.bql_compiler.proofs.laws.shaped_code_is_well_shaped.Goals as goal

pub returns : goal.returns
returns c = λ p filter row last is has room. is_depth p filter row last is room has

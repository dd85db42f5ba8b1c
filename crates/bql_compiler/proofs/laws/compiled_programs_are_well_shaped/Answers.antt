use Rattle.bql_compiler.proofs.ProgramFacts.{compiled_depth}
use Rattle.bql_compiler.proofs.laws.compiled_programs_are_well_shaped.Goals as goal

pub returns : goal.returns
returns c = compiled_depth

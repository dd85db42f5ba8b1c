use Rattle.bql_compiler.proofs.CarriedFacts.{carries}
use Rattle.bql_compiler.proofs.laws.compiled_programs_carry_their_queries.Goals as goal

pub returns : goal.returns
returns c = carries

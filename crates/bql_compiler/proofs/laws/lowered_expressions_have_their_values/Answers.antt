use Rattle.bql_compiler.proofs.LoweredFacts.{lowered_value}
use Rattle.bql_compiler.proofs.laws.lowered_expressions_have_their_values.Goals as goal

pub returns : goal.returns
returns c = λ b pool l g rows reads t s e small sided counted.
    lowered_value b pool l g rows reads t s e small sided counted

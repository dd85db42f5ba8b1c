use Rattle.bql_compiler.proofs.CodeFacts.{all_left, one_left}
use Rattle.bql_compiler.proofs.laws.codes_leave_their_values.Goals as goal

pub returns : goal.returns
returns c = record { one = one_left; all = all_left }

use Rattle.bql_meaning.proofs.AnswerFacts.{are_there, one_answer}
use Rattle.bql_meaning.proofs.answers_are_one.Goals as goal

pub returns : goal.returns
returns c = record { there = are_there; one = one_answer }

use Rattle.bean_grammar.proofs.LiteralFacts.{reads_day}
use Rattle.bean_grammar.proofs.literal.day.Goals as goal

pub returns-clause-read : goal.returns-clause-read
returns-clause-read c = reads_day _ _ _ _ c.in_ok-written.ensures.front c.day_of.ensures

use Rattle.bean_grammar.proofs.LiteralFacts.{reads_no_text}
use Rattle.bean_grammar.proofs.literal.text_if_due.Goals as goal

pub returns-in-None : goal.returns-in-None
returns-in-None c = reads_no_text _ c.in-None.ensures.read

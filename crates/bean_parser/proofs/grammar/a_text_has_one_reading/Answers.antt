use Rattle.bean_parser.proofs.OneReadingFacts.{one_text}
use Rattle.bean_parser.proofs.grammar.a_text_has_one_reading.Goals as goal

pub returns : goal.returns
returns c = one_text

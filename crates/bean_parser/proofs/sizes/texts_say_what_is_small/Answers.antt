use Rattle.bean_parser.proofs.SmallParsedFacts.{parsed_small}
use Rattle.bean_parser.proofs.sizes.texts_say_what_is_small.Goals as goal

pub returns : goal.returns
returns c = parsed_small

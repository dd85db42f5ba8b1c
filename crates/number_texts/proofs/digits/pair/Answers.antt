use Rattle.number_texts.proofs.PairFacts.{pair_at}
use Rattle.number_texts.proofs.digits.pair.Goals as goal

pub returns-clause-first : goal.returns-clause-first
returns-clause-first c = (pair_at c.args.number c.requires).0

pub returns-clause-second : goal.returns-clause-second
returns-clause-second c = (pair_at c.args.number c.requires).1

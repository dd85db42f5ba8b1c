use Rattle.push_laws.proofs.TextFacts as facts
use Rattle.push_laws.proofs.texts_give_the_same.Goals as goal

pub returns : goal.returns
returns c = facts.texts_give_the_same

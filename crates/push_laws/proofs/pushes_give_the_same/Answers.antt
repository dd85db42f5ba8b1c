use Rattle.push_laws.proofs.AlikeFacts.{give_the_same}
use Rattle.push_laws.proofs.pushes_give_the_same.Goals as goal

pub returns : goal.returns
returns c = give_the_same

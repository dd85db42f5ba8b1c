use Rattle.push_laws.proofs.AlikeFacts.{have_their_pops}
use Rattle.push_laws.proofs.pushes_have_their_pops.Goals as goal

pub returns : goal.returns
returns c = have_their_pops

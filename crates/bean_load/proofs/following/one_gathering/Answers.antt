use Rattle.bean_load.proofs.OneGathering.{one_gathering}
use Rattle.bean_load.proofs.following.one_gathering.Goals as goal

pub returns : goal.returns
returns c = one_gathering

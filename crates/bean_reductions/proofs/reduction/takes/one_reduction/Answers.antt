use Rattle.bean_reductions.proofs.ReductionFacts.{one}
use Rattle.bean_reductions.proofs.reduction.takes.one_reduction.Goals as goal

pub returns : goal.returns
returns c = one

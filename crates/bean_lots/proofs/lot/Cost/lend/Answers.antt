use Rattle.std.proofs.Common.{arith}
use Rattle.std.proofs.lemmas.Int.{ints}
use Rattle.bean_lots.proofs.LotFacts.{one_cost}
use Rattle.bean_lots.proofs.lot.Cost.lend.Goals as goal

pub returns : goal.returns
returns c = one_cost _ _ (omega (arith, ints)) c.lend.ensures

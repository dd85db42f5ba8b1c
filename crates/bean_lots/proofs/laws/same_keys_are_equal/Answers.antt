use Rattle.bean_lots.proofs.LotFacts.{same_key_Decides}
use Rattle.bean_lots.proofs.laws.same_keys_are_equal.Goals as goal

pub returns : goal.returns
returns c = λ a b. ((same_key_Decides a b).0, (same_key_Decides a b).1)

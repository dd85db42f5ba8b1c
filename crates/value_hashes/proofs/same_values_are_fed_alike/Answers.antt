use Rattle.value_hashes.proofs.FedFacts.{values_alike}
use Rattle.value_hashes.proofs.same_values_are_fed_alike.Goals as goal

pub returns : goal.returns
returns c = values_alike

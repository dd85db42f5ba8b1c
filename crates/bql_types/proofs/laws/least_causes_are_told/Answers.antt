use Rattle.bql_types.proofs.ItemFacts.{none_told}
use Rattle.bql_types.proofs.LawFacts.{least_is_told}
use Rattle.bql_types.proofs.laws.least_causes_are_told.Goals as goal

pub returns : goal.returns
returns c = record { told = least_is_told; none = none_told }

use Rattle.query_values.proofs.EqualityFacts.{values_equiv}
use Rattle.query_values.proofs.comparison.being_the_same_is_an_equivalence.Goals as goal

pub returns : goal.returns
returns c = values_equiv

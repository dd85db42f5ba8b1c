-- Lists of values that are the same.
use Rattle.std.specs.Cmp.{IsEquivalence}
use Rattle.std.specs.Cmp.Lexicographic.{lists_equiv}
use Rattle.query_values.proofs.EqualityFacts.{values_equiv}
use Rattle.query_rows.specs.Same.{same_values}

pub lists_same : IsEquivalence same_values
lists_same = lists_equiv values_equiv

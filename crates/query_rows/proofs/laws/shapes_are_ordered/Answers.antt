use Rattle.query_rows.proofs.OrderFacts.{reflexive, transitive, keeps, above, least}
use Rattle.query_rows.proofs.laws.shapes_are_ordered.Goals as goal

pub returns : goal.returns
returns c = record {
  reflexive = reflexive;
  transitive = transitive;
  keeps = keeps;
  above = above;
  least = least;
}

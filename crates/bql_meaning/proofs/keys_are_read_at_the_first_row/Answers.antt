use Rattle.bql_meaning.proofs.KeyFacts.{at_first, of_the_group, of_the_rows}
use Rattle.bql_meaning.proofs.TypedFacts.{keys_are_typed}
use Rattle.bql_meaning.proofs.keys_are_read_at_the_first_row.Goals as goal

pub returns : goal.returns
returns c = record {
  first = at_first;
  group = of_the_group;
  rows = of_the_rows;
  typed = keys_are_typed;
}

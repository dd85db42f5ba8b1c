use Rattle.query_rows.proofs.GatheringFacts.{on_rows, on_values, takes_on, gathers_rise}
use Rattle.query_rows.proofs.laws.aggregates_keep_shapes.Goals as goal

pub returns : goal.returns
returns c = record {
  rows = on_rows;
  values = on_values;
  takes = takes_on;
  monotone = gathers_rise;
}

use Rattle.posting_table.proofs.FitFacts.{rows_lie}
use Rattle.posting_table.proofs.laws.cells_lie_in_their_shapes.Goals as goal

pub returns : goal.returns
returns c = rows_lie

use Rattle.posting_table.proofs.PartFacts.{row_lies}
use Rattle.posting_table.proofs.laws.rows_of_small_parts_are_shaped.Goals as goal

pub returns : goal.returns
returns c = row_lies

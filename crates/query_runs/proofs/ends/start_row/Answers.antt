use Rattle.std.proofs.Common.{arith}
use Rattle.std.proofs.lemmas.List.{length-map}
use Rattle.posting_table.specs.Rows.{row_of}
use Rattle.query_runs.proofs.ends.start_row.Goals as goal

pub start_filter-requires-clause-there : goal.start_filter-requires-clause-there
start_filter-requires-clause-there c =
    omega (arith, length-map c.args.input.now.ledger.now.rows row_of)

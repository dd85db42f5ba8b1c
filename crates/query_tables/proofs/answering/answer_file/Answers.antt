use Rattle.query_tables.proofs.FileFacts.{comes_to, means_query}
use Rattle.query_tables.proofs.answering.answer_file.Goals as goal

pub returns-in-Ok-clause-only : goal.returns-in-Ok-clause-only
returns-in-Ok-clause-only c = λ p is_file is_well_shaped.
    comes_to c.args.file.now c.in-Ok.program.program.parts p c.in-Ok.program.depth
    c.args.ledger.now c.run_checked.result c.in-Ok.ensures.checks is_file c.run_checked.ensures

pub returns-in-Ok-clause-means : goal.returns-in-Ok-clause-means
returns-in-Ok-clause-means c = λ b q are.
    means_query c.args.file.now b q are c.in-Ok.program.program.parts c.in-Ok.ensures.checks
    c.in-Ok.program.depth c.args.ledger.now c.run_checked.result c.run_checked.ensures

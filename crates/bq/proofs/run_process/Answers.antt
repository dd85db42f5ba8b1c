use Rattle.std.proofs.Common.{Err, ◌∙◌}
use Rattle.bq.proofs.run_process.Goals as goal

pub returns-in-Err : goal.returns-in-Err
returns-in-Err c = (Err c.in-Err.refusal, c.from-in-Err.ensures ∙ c.status.ensures)

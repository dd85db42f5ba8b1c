use Rattle.query_batch.proofs.Joining.{joins_next}
use Rattle.query_batch.proofs.batch.Batch.new.Goals as goal

pub loop-program-preserved : goal.loop-program-preserved
loop-program-preserved c =
    joins_next c.args.ledger.now c.args.programs.now c.loop-program.runs.items
    c.push.new.self.items c.loop-program.program-index c.program-item.result
    c.in_ok-start.field-0 c.loop-program-test.true c.program-item.is c.in_ok-push.ensures.items
    c.loop-program.invariant c.in_ok-start.ensures

use Rattle.query_runs.proofs.SafeRuns.{begins_safely}
use Rattle.query_runs.proofs.starting.start.Goals as goal

pub start_row-requires : goal.start_row-requires
start_row-requires c =
    begins_safely c.args.input.now.parts.now _ c.args.depth c.requires.safe c.in_ok-running.running
    c.new-3.result c.new-4.result c.in_ok-running.ensures c.new-3.ensures c.new-4.ensures

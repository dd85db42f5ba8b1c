use Rattle.std.proofs.Common.{refl, arith}
use Rattle.query_runs.proofs.Starts.{group_starts}
use Rattle.query_runs.proofs.ends.start_group.Goals as goal

pub returns-in_ok-begin-clause-stand : goal.returns-in_ok-begin-clause-stand
returns-in_ok-begin-clause-stand c =
    group_starts c.args.input.now.parts.now c.args.run.now.groups c.args.run.now.rows
    c.args.run.now.group _ (omega arith) c.requires refl refl refl c.in_ok-begin.ensures.begun

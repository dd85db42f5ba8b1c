use Rattle.std.proofs.Common.{refl}
use Rattle.query_runs.specs.Stands.{kept_in, rows_in}
use Rattle.query_runs.proofs.Starts.{row_starts}
use Rattle.query_runs.proofs.ends.start_filter.Goals as goal

pub returns-clause-stand : goal.returns-clause-stand
returns-clause-stand c =
    row_starts c.args.input.now.parts.now (rows_in c.args.input.now) (kept_in c.args.run.now)
    c.args.run.now.row _ c.requires.there c.requires.fine refl refl c.in_ok-begin.ensures.begun

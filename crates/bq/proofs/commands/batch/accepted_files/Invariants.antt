use Rattle.std.proofs.Common.{drop}
use Rattle.bq.proofs.AcceptedFacts.{SoFar}
use Rattle.bq.proofs.commands.batch.accepted_files.Given as goal

-- what comes of the names that are left completes what came of those before them
abbrev pub invariant-loop-name : goal.invariant-loop-name
invariant-loop-name g l =
    SoFar g.S.Source l.fn.store l.store l.names (drop l.name-index l.names) l.files

use Rattle.std.proofs.Common.{take}
use Rattle.query_batch.specs.Batch.{AreJoined}
use Rattle.query_batch.proofs.batch.Batch.new.Given as goal

abbrev pub invariant-loop-program : goal.invariant-loop-program
invariant-loop-program l = AreJoined l.ledger (take l.program-index l.programs) l.runs.items

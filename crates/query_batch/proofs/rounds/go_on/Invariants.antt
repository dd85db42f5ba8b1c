use Rattle.query_batch.specs.Rounds.{AreRounds}
use Rattle.query_batch.proofs.rounds.go_on.Given as goal

abbrev pub invariant-loop : goal.invariant-loop
invariant-loop l = AreRounds l.counter l.k l.fn.batch l.batch

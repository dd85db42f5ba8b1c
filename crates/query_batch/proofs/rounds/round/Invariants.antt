use Rattle.std.proofs.Common.{◌≡◌, take}
use Rattle.std.specs.List.{list_any}
use Rattle.query_batch.proofs.RoundFacts.{AreTurnedTo}
use Rattle.query_batch.specs.Rounds as spec
use Rattle.query_batch.proofs.rounds.round.Given as goal

abbrev pub invariant-loop-number : goal.invariant-loop-number
invariant-loop-number l =
    AreTurnedTo l.number l.k l.fn.batch l.batch
    × (l.is_any_going ≡ list_any spec.is_going (take l.number l.batch))

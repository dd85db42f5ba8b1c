use Rattle.std.proofs.Common.{◌≡◌, [], map, take}
use Rattle.query_values.specs.Aggregate.{aggregate_of}
use Rattle.query_groups.proofs.totals.starts.Given as goal

abbrev pub invariant-loop-aggregate : goal.invariant-loop-aggregate
invariant-loop-aggregate l =
    l.values.items ≡ map (λ a. aggregate_of a []) (take l.aggregate-index l.aggregates)

use Rattle.std.proofs.Common.{◌≡◌, drop}
use Rattle.bql_tree.specs.Tree.{trees_of}
use Rattle.bql_types.specs.Sought.{one_aggregates}
use Rattle.bql_types.proofs.aggregates.+aggregates.Given as goal

-- an aggregate stands in all where one stands in those that are left
abbrev pub invariant-one_aggregates-loop-e : goal.invariant-one_aggregates-loop-e
invariant-one_aggregates-loop-e l =
    one_aggregates (trees_of (drop l.e-index l.es)) ≡ one_aggregates (trees_of l.es)

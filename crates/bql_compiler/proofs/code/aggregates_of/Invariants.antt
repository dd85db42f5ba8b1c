use Rattle.std.proofs.Common.{◌≡◌, ◌++◌, drop, map}
use Rattle.bql_types.specs.Gathered.{aggregate_in}
use Rattle.bql_types.specs.Keys.{lent_trees}
use Rattle.bql_compiler.proofs.code.aggregates_of.Given as goal

-- what is there so far, with those that are left, is what is there in all
abbrev pub invariant-loop-key : goal.invariant-loop-key
invariant-loop-key l =
    l.list ++ map (aggregate_in l.bounds) (lent_trees (drop l.key-index l.exprs))
    ≡ map (aggregate_in l.bounds) (lent_trees l.exprs)

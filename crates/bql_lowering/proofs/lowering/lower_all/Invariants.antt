use Rattle.std.proofs.Common.{◌≡◌, ◌++◌, drop}
use Rattle.std.specs.List.{AllByRecursion}
use Rattle.bql_code.specs.Kept.{cores_of}
use Rattle.bql_lowering.specs.Kept.{gathered_of}
use Rattle.bql_lowering.specs.Listed.{HasShape}
use Rattle.bql_lowering.specs.Lowered as rule
use Rattle.bql_parser.specs.Small.{IsSmallTree}
use Rattle.bql_types.specs.Keys.{lent_trees}
use Rattle.bql_lowering.proofs.lowering.lower_all.Given as goal

-- what is there so far, with those that are left, is what is there in all
abbrev pub invariant-loop-key : goal.invariant-loop-key
invariant-loop-key l =
    AllByRecursion IsSmallTree (lent_trees (drop l.key-index l.exprs))
    × AllByRecursion (HasShape l.scope.bounds) (lent_trees (drop l.key-index l.exprs))
    × (cores_of l.cores.items
    ++ rule.all_lowered l.scope.bounds (gathered_of l.scope)
    (lent_trees (drop l.key-index l.exprs))
    ≡ rule.all_lowered l.scope.bounds (gathered_of l.scope) (lent_trees l.exprs))

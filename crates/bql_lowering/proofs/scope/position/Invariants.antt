use Rattle.std.proofs.Common.{◌≡◌, ◌+◌, drop}
use Rattle.bql_plan.specs.Plan.{index_of}
use Rattle.bql_tree.specs.Tree.{tree_of}
use Rattle.bql_types.specs.Keys.{lent_trees}
use Rattle.bql_types.specs.Sought.{is_key}
use Rattle.bql_lowering.proofs.scope.position.Given as goal

-- it is sought among those that are left
abbrev pub invariant-loop-i : goal.invariant-loop-i
invariant-loop-i l =
    (is_key (lent_trees (drop l.i l.keys)) (tree_of l.e)
    ≡ is_key (lent_trees l.keys) (tree_of l.e))
    × (index_of (lent_trees (drop l.i l.keys)) (tree_of l.e) + l.i
    ≡ index_of (lent_trees l.keys) (tree_of l.e))

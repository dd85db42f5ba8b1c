use Rattle.std.proofs.Common.{◌≡◌, drop}
use Rattle.bql_tree.specs.Tree.{tree_of}
use Rattle.bql_types.specs.Keys.{lent_trees}
use Rattle.bql_types.specs.Sought.{is_key}
use Rattle.bql_types.proofs.grouped.is_key.Given as goal

-- it is one of the keys where it is one of those that are left
abbrev pub invariant-loop-i : goal.invariant-loop-i
invariant-loop-i l =
    is_key (lent_trees (drop l.i l.keys)) (tree_of l.e) ≡ is_key (lent_trees l.keys) (tree_of l.e)

use Rattle.std.proofs.Common.{◌≡◌, drop}
use Rattle.bql_tree.specs.Tree.{trees_of}
use Rattle.bql_types.specs.Cause.{told}
use Rattle.bql_types.specs.Keys.{lent_trees}
use Rattle.bql_types.specs.Sought.{all_ungrouped}
use Rattle.bql_types.proofs.grouped.+ungrouped.Given as goal

-- what is found so far, with the arguments that are left, is what is found in all
abbrev pub invariant-all_ungrouped-loop-e : goal.invariant-all_ungrouped-loop-e
invariant-all_ungrouped-loop-e l =
    told l.found (all_ungrouped (lent_trees l.keys) (trees_of (drop l.e-index l.es)))
    ≡ told l.initial.found (all_ungrouped (lent_trees l.keys) (trees_of l.es))

use Rattle.std.proofs.Common.{◌≡◌, ◌+◌, drop}
use Rattle.bql_plan.specs.Plan as rule
use Rattle.bql_tree.specs.Tree.{tree_of}
use Rattle.bql_types.specs.Keys.{lent_trees}
use Rattle.bql_plan.proofs.exprs.index_of.Given as goal

-- what is there so far, with those that are left, is what is there in all
abbrev pub invariant-loop-i : goal.invariant-loop-i
invariant-loop-i l =
    rule.index_of (lent_trees (drop l.i l.exprs)) (tree_of l.expr) + l.i
    ≡ rule.index_of (lent_trees l.exprs) (tree_of l.expr)

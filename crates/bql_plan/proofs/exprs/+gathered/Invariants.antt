use Rattle.std.proofs.Common.{◌≡◌, drop}
use Rattle.theory.specs.Form.{steps}
use Rattle.bql_plan.specs.Plan as rule
use Rattle.bql_tree.specs.Tree.{trees_of}
use Rattle.bql_types.specs.Keys.{lent_trees}
use Rattle.bql_plan.proofs.exprs.+gathered.Given as goal

-- what is there so far, with those that are left, is what is there in all
abbrev pub invariant-all_gathered-loop-e : goal.invariant-all_gathered-loop-e
invariant-all_gathered-loop-e l =
    steps rule.added (lent_trees l.found.items)
    (rule.all_aggregates (trees_of (drop l.e-index l.es)))
    ≡ steps rule.added (lent_trees l.initial.found.items) (rule.all_aggregates (trees_of l.es))

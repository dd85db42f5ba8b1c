use Rattle.std.proofs.Common.{◌≡◌, [], drop}
use Rattle.theory.specs.Form.{steps}
use Rattle.bql_plan.specs.Plan as rule
use Rattle.bql_types.specs.Keys.{lent_trees}
use Rattle.bql_plan.proofs.exprs.aggregates.Given as goal

-- what is there so far, with those that are left, is what is there in all
abbrev pub invariant-loop-key : goal.invariant-loop-key
invariant-loop-key l =
    steps rule.added (lent_trees l.found.items)
    (rule.aggregates_of (lent_trees (drop l.key-index l.exprs)))
    ≡ steps rule.added [] (rule.aggregates_of (lent_trees l.exprs))

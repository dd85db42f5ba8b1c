use Rattle.std.proofs.Common.{◌≡◌, drop, map}
use Rattle.theory.specs.Form.{steps}
use Rattle.bql_parser.specs.View.{item_of}
use Rattle.bql_plan.specs.Plan as rule
use Rattle.bql_types.specs.Keys.{lent_trees}
use Rattle.bql_plan.proofs.exprs.with_items.Given as goal

-- what is there so far, with those that are left, is what is there in all
abbrev pub invariant-loop-item : goal.invariant-loop-item
invariant-loop-item l =
    steps rule.added (lent_trees l.shown.items)
    (rule.own_trees (map item_of (drop l.item-index l.items)))
    ≡ steps rule.added (lent_trees l.initial.shown.items) (rule.own_trees (map item_of l.items))

use Rattle.std.proofs.Common.{◌≡◌, ◌++◌, drop, map}
use Rattle.bql_parser.specs.View.{item_of}
use Rattle.bql_plan.specs.Plan as rule
use Rattle.bql_types.specs.Keys.{lent_trees}
use Rattle.bql_plan.proofs.exprs.order.Given as goal

-- what is there so far, with those that are left, is what is there in all
abbrev pub invariant-loop-item : goal.invariant-loop-item
invariant-loop-item l =
    l.order.items
    ++ map (rule.index_for (lent_trees l.shown)) (map item_of (drop l.item-index l.items))
    ≡ map (rule.index_for (lent_trees l.shown)) (map item_of l.items)

-- What is kept of plans, as the definitions have it.
use Rattle.std.specs.Prelude.{ℕ, Option}
use Rattle.std.specs.Option.{option_map}
use Rattle.bql_plan.specs.Plan.{Plan}
use Rattle.bql_plan.specs.declared.plan.Numbering.{Numbering}
use Rattle.bql_tree.specs.Tree.{Tree}
use Rattle.bql_types.specs.Keys.{lent_tree, lent_trees, grouping_of}
use Rattle.bql_types.specs.declared.grouped.Key.{Key}

abbrev pub lent_if : Option Key → Option (Tree ℕ)
lent_if k = option_map lent_tree k

abbrev pub numbered_of : Numbering → Plan
numbered_of n = record {
  shown = lent_trees n.shown.items;
  order = n.order.items;
  grouping = grouping_of n.grouping;
  aggregates = lent_trees n.aggregates.items;
}

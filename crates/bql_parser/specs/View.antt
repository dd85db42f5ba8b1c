-- What the structs that a query is made of stand for.
use Rattle.std.specs.Prelude.{ℕ, Bool, List, map, Option, Some, None, Box, Vec}
use Rattle.std.specs.declared.alloc.Global.{Global}
use Rattle.bql_tree.specs.Tree.{Tree, tree_of}
use Rattle.bql_tree.specs.declared.tree.Expr.{Expr}
use Rattle.bql_parser.specs.Asked as asked
use Rattle.bql_parser.specs.Asked.{Asked, target_item, tree_item}
use Rattle.bql_grammar.specs.Clause as clause
use Rattle.bql_parser.specs.declared.query.Draft.{Draft}
use Rattle.bql_parser.specs.declared.query.Filters.{Filters}
use Rattle.bql_parser.specs.declared.query.Item.{Item}
use Rattle.bql_parser.specs.declared.query.ItemKind.{ItemKind}
use Rattle.bql_parser.specs.declared.query.ItemKind.TheVariants as kinds
use Rattle.bql_parser.specs.declared.query.Order.{Order}
use Rattle.bql_parser.specs.declared.query.Target.{Target}

abbrev pub target_of : Target → asked.Target
target_of t = record { name = t.name; tree = tree_of t.expr.value }

abbrev pub targets_of : Vec Target Global → List asked.Target
targets_of v = map target_of v.items

abbrev pub kind_of : ItemKind → asked.ItemKind
kind_of (kinds.Target index) = target_item index
kind_of (kinds.Expr e) = tree_item (tree_of e.value)

abbrev pub item_of : Item → asked.Item
item_of i = record { place = i.place; kind = kind_of i.kind }

abbrev pub items_of : Vec Item Global → List asked.Item
items_of v = map item_of v.items

abbrev pub filter_of : Option (Box Expr Global) → Option (Tree ℕ)
filter_of (Some e) = Some (tree_of e.value)
filter_of None = None

abbrev pub filters_of : Filters → clause.Filters (Tree ℕ)
filters_of f = record { from = filter_of f.from; filter = filter_of f.filter }

abbrev pub group_of : Option (Vec Item Global) → Option (List asked.Item)
group_of (Some v) = Some (items_of v)
group_of None = None

abbrev pub order_of : Order → clause.Order asked.Item
order_of o = record { items = items_of o.items; descending = o.descending }

abbrev pub asked_of : Bool → Vec Target Global → Filters → Option (Vec Item Global) → Order
    → Option ℕ → Asked
asked_of distinct targets filters group order limit = record {
  distinct = distinct;
  targets = targets_of targets;
  filters = filters_of filters;
  group = group_of group;
  order = order_of order;
  limit = limit;
}

abbrev pub draft_of : Draft → Asked
draft_of d = asked_of d.distinct d.targets d.filters d.group d.order d.limit

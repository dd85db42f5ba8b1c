-- The keys that are lent, and how rows come to be.
use Rattle.std.specs.Prelude.{ℕ, List, [], ◌∷◌, map, Option, Some, None, Vec}
use Rattle.std.specs.declared.alloc.Global.{Global}
use Rattle.bql_parser.specs.View as answer
use Rattle.bql_grammar.specs.Clause as clause
use Rattle.bql_parser.specs.Asked as settled
use Rattle.bql_parser.specs.declared.query.Filters.{Filters}
use Rattle.bql_parser.specs.declared.query.Item.{Item}
use Rattle.bql_tree.specs.Tree.{Tree, tree_of}
use Rattle.bql_types.specs.Typing as typing
use Rattle.bql_types.specs.declared.grouped.Key.{Key}
use Rattle.bql_types.specs.declared.grouping.Grouping.{Grouping}

abbrev pub lent_tree : Key → Tree ℕ
lent_tree k = tree_of k.expr.now

abbrev pub lent_trees : List Key → List (Tree ℕ)
lent_trees ks = map lent_tree ks

abbrev pub key_found : Option Key → List (Tree ℕ)
key_found (Some k) = lent_tree k ∷ []
key_found None = []

abbrev pub grouping_of : Grouping → typing.Grouping
grouping_of g = record { is_aggregating = g.is_aggregating; keys = lent_trees g.keys.items }

abbrev pub filters_of : Filters → clause.Filters (Tree ℕ)
filters_of f = answer.filters_of f

abbrev pub group_of : Option (Vec Item Global) → Option (List settled.Item)
group_of g = answer.group_of g

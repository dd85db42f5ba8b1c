-- Worked queries.
use Rattle.std.proofs.Common.{◌≡◌, ℕ, ◌+◌, false, List, [], ◌∷◌, map, Option, Some, None, refl}
use Rattle.limits.specs.declared.bounds.Bounds.{Bounds}
use Rattle.limits.specs.declared.bounds.Version.TheVariants.{First}
use Rattle.bql_parser.specs.Asked.{Asked, Target, Item, tree_item, target_item}
use Rattle.bql_parser.specs.Standing as standing
use Rattle.bql_parser.specs.declared.standing.Valuation.TheVariants as valuation
use Rattle.bql_tree.specs.Tree.{leaf_of, two_of, call_of, Tree, node, no_trees, trees}
use Rattle.query_terms.specs.declared.column.Column.{Column}
use Rattle.query_terms.specs.declared.column.Column.TheVariants as column
use Rattle.bql_tree.specs.declared.function.Function.{Function}
use Rattle.bql_tree.specs.declared.function.Function.TheVariants.{Sum, Cost}
use Rattle.bql_tree.specs.declared.tree.BinaryOperator.TheVariants.{Plus, Times}
use Rattle.bql_tree.specs.declared.tree.Leaf.TheVariants as leaf
use Rattle.bql_types.specs.Cause.{cause_at, least_of}
use Rattle.bql_types.specs.Typing.{causes}
use Rattle.bql_types.specs.declared.cause.TypeCause.{TypeCause}
use Rattle.bql_types.specs.declared.cause.TypeCauseKind.TheVariants.{KindClash, AggregateMisplaced}
use Rattle.bql_types.specs.declared.cause.TypeCauseKind.TheVariants.{NotGrouped, NotOrderable, TooWide}
use Rattle.bql_types.specs.declared.cause.TypeCauseKind.TheVariants.{BalanceMisplaced}

abbrev widest : Bounds
widest = record { schema = First; postings = 1000000; units_digits = 20; value_digits = 28 }

abbrev narrower : Bounds
narrower = record { schema = First; postings = 1000000; units_digits = 14; value_digits = 28 }

abbrev of_column : ℕ → Column → Tree ℕ
of_column at c = node at (leaf_of (leaf.Column c)) no_trees

abbrev rows : ℕ → Tree ℕ
rows at = node at (leaf_of leaf.Rows) no_trees

abbrev of_one : ℕ → Function → Tree ℕ → Tree ℕ
of_one at f t = node at (call_of f) (trees t no_trees)

abbrev target : Tree ℕ → Target
target t = record { name = []; tree = t }

abbrev item : ℕ → Tree ℕ → Item
item place t = record { place = place; kind = tree_item t }

-- targets, GROUP BY and ORDER BY
abbrev asked : List (Tree ℕ) → Option (List Item) → List Item → Asked
asked ts group items = record {
  distinct = false;
  targets = map target ts;
  filters = record { from = None; filter = None };
  group = group;
  order = record { items = items; descending = false };
  limit = None;
}

abbrev told : Bounds → Asked → Option TypeCause
told b q = least_of (causes b q)

-- account + year
clash : told widest
    (asked (node 7 (two_of Plus) (trees (of_column 7 column.Account)
    (trees (of_column 17 column.Year) no_trees)) ∷ []) None []) ≡ Some (cause_at KindClash 7)
clash = refl

-- sum(count(*))
inside : told widest (asked (of_one 7 Sum (rows 11) ∷ []) None [])
    ≡ Some (cause_at AggregateMisplaced 11)
inside = refl

-- account, count(*) GROUP BY year
ungrouped : told widest
    (asked (of_column 7 column.Account ∷ rows 16 ∷ [])
    (Some (item 34 (of_column 34 column.Year) ∷ [])) []) ≡ Some (cause_at NotGrouped 7)
ungrouped = refl

-- account, count(*) GROUP BY account
grouped : told widest
    (asked (of_column 7 column.Account ∷ rows 16 ∷ [])
    (Some (item 34 (of_column 34 column.Account) ∷ [])) []) ≡ None
grouped = refl

-- position ORDER BY position
unordered : told widest
    (asked (of_column 7 column.Position ∷ []) None (item 25 (of_column 25 column.Position) ∷ []))
    ≡ Some (cause_at NotOrderable 25)
unordered = refl

abbrev products : Asked
products = asked (of_one 7 Sum (node 11 (two_of Times) (trees (of_column 11 column.Number)
    (trees (of_column 20 column.Number) no_trees))) ∷ []) None []

-- sum(number * number)
too_wide : told widest products ≡ Some (cause_at TooWide 11)
too_wide = refl

narrow : told narrower products ≡ None
narrow = refl

abbrev all_costs : ℕ → Tree ℕ
all_costs at = of_one at Cost (of_one (at + 5) Sum (of_column (at + 9) column.Position))

-- cost(sum(position)), and its cost
costs : told widest (asked (all_costs 7 ∷ []) None []) ≡ None
costs = refl

costs_of_costs : told widest (asked (of_one 7 Cost (all_costs 12) ∷ []) None [])
    ≡ Some (cause_at TooWide 7)
costs_of_costs = refl

-- balance, count(*)
balance_of_groups : told widest (asked (of_column 7 column.Balance ∷ rows 16 ∷ []) None [])
    ≡ Some (cause_at BalanceMisplaced 7)
balance_of_groups = refl

-- sum(balance): nothing sums inventories
sum_of_balances : told widest (asked (of_one 7 Sum (of_column 11 column.Balance) ∷ []) None [])
    ≡ Some (cause_at KindClash 7)
sum_of_balances = refl

-- count(*) AS x GROUP BY x
target_of_groups : told widest
    (asked (rows 7 ∷ []) (Some (record { place = 30; kind = target_item 0 } ∷ [])) [])
    ≡ Some (cause_at AggregateMisplaced 30)
target_of_groups = refl

-- JOURNAL AT cost, BALANCES AT units
journal : told widest (standing.journal None (Some valuation.Cost) None) ≡ None
journal = refl

balances : told widest
    (standing.balances (Some valuation.Units) record { from = None; filter = None }) ≡ None
balances = refl

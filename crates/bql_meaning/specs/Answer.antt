-- What a query answers over the rows of a ledger.
use Rattle.std.specs.Prelude.{ℕ, Bool, true, ◌&&◌, List, [], ◌∷◌, ◌++◌, map, filter, Option, Some}
use Rattle.std.specs.Prelude.{None, slice_get, if◌then◌else◌}
use Rattle.limits.specs.declared.bounds.Bounds.{Bounds}
use Rattle.bql_grammar.specs.Clause as clause
use Rattle.bql_parser.specs.Asked.{Asked, Target, Item, ItemKind, target_item, tree_item}
use Rattle.bql_tree.specs.Tree.{Tree}
use Rattle.bql_types.specs.Typing.{Grouping, grouping_of}
use Rattle.query_rows.specs.FinalRows.{Ranked, Finish, IsFinal}
use Rattle.query_rows.specs.Grouping.{groups_of}
use Rattle.query_rows.specs.Row.{Row}
use Rattle.query_terms.specs.declared.column.Column.TheVariants as column
use Rattle.query_values.specs.Aggregate.{aggregate_of}
use Rattle.query_values.specs.Operation.{is_true}
use Rattle.query_values.specs.declared.operation.Aggregate.TheVariants.{SumInventory}
use Rattle.query_values.specs.declared.value.Value.{Value}
use Rattle.query_values.specs.declared.value.Value.TheVariants.{Null}
use Rattle.bql_meaning.specs.Meaning.{value_of}
use Rattle.bql_meaning.specs.Reading.{Reading}

-- a row at which there is no running inventory
abbrev pub unbalanced : Row → Reading
unbalanced r = record { row = r; balance = Null }

-- rows that aren't grouped stand alone
abbrev pub alone : List Reading → List (List Reading)
alone rows = map (λ r. r ∷ []) rows

-- positions with that of a row more
abbrev pub and_of : List Value → Row → List Value
and_of positions r = positions ++ r.cell column.Position ∷ []

-- each row with its running inventory: the sum of the positions before it and of its own
abbrev pub balanced : List Value → List Row → List Reading
balanced before [] = []
balanced before (r ∷ rest) =
    record { row = r; balance = aggregate_of (SumInventory 8) (and_of before r) }
    ∷ balanced (and_of before r) rest

module _ (b : Bounds) where
  -- ---- the rows that pass

  -- a filter that isn't there holds
  abbrev pub holds : Option (Tree ℕ) → Row → Bool
  holds (Some t) r = is_true (value_of b (unbalanced r ∷ []) t)
  holds None r = true

  abbrev pub passes : clause.Filters (Tree ℕ) → Row → Bool
  passes f r = holds f.from r && holds f.filter r

  abbrev pub passing : clause.Filters (Tree ℕ) → List Row → List Reading
  passing f rows = balanced [] (filter (passes f) rows)

  -- ---- groups

  abbrev pub keys_at : List (Tree ℕ) → Reading → List Value
  keys_at keys r = map (value_of b (r ∷ [])) keys

  -- one for each of the distinct values of the keys, in order of first appearance
  abbrev pub groups : List (Tree ℕ) → List Reading → List (List Reading)
  groups keys rows = groups_of (keys_at keys) rows

  abbrev pub grouped : Grouping → List Reading → List (List Reading)
  grouped g rows = if g.is_aggregating then groups g.keys rows else alone rows

  -- ---- the rows of a query

  abbrev pub target_value : List Reading → Option Target → Value
  target_value rows (Some t) = value_of b rows t.tree
  target_value rows None = Null

  abbrev pub kind_value : List Target → List Reading → ItemKind → Value
  kind_value ts rows (target_item index) = target_value rows (slice_get ts index)
  kind_value ts rows (tree_item t) = value_of b rows t

  -- an item has the value of the target that it is, or of its own expression
  abbrev pub item_value : List Target → List Reading → Item → Value
  item_value ts rows i = kind_value ts rows i.kind

  abbrev pub target_values : List Target → List Reading → List Value
  target_values ts rows = map (λ (t : Target). value_of b rows t.tree) ts

  -- a row shows the values of the targets, and is ordered by those of the items
  abbrev pub row_of : Asked → List Reading → Ranked
  row_of s rows = record {
    shown = target_values s.targets rows;
    ranks = map (item_value s.targets rows) s.order.items;
  }

  -- in the order in which they come to be
  abbrev pub rows_of : Asked → List Row → List Ranked
  rows_of s rows = map (row_of s) (grouped (grouping_of s) (passing s.filters rows))

-- ---- how they come out

abbrev pub finish_of : Asked → Finish
finish_of s =
    record { is_descending = s.order.descending; is_distinct = s.distinct; limit = s.limit }

-- These are the rows that a query answers over the rows of a ledger: in its order, those that tie
-- as they came to be; each once under DISTINCT; and no more than its limit.
abbrev pub IsAnswer : Bounds → Asked → List Row → List (List Value) → Type 0
IsAnswer b s rows final = IsFinal (finish_of s) (rows_of b s rows) final

-- What holds of plans.
use Rattle.std.specs.Prelude.{◌≡◌, ℕ, true, List, Some}
use Rattle.std.specs.List.{IsAmong, slice_get}
use Rattle.bql_plan.specs.Plan.{index_of, own_trees, shown, aggregates_of, plan}
use Rattle.bql_tree.specs.Tree.{Tree}
use Rattle.bql_parser.specs.Asked.{Asked}
use Rattle.bql_types.specs.Same.{same}
use Rattle.bql_types.specs.Sought.{is_key}

-- at its index stands an expression that is the same
pub record StandsIn (ts : List (Tree ℕ)) (t : Tree ℕ) : Type 0 where
  pub tree : Tree ℕ
  pub there : slice_get ts (index_of ts t) ≡ Some tree
  pub is : same t tree ≡ true

-- whatever orders rows is shown or hidden
abbrev pub OrderIsShown : Type 0
OrderIsShown = (s : Asked) (t : Tree ℕ) → IsAmong (own_trees s.order.items) t
    → StandsIn (shown s) t

-- whatever is gathered for what is shown or hidden is counted
abbrev pub AggregatesAreCounted : Type 0
AggregatesAreCounted = (s : Asked) (t : Tree ℕ) → IsAmong (aggregates_of (shown s)) t
    → StandsIn (plan s).aggregates t

-- and whatever is a key stands among the keys
abbrev pub KeysAreFound : Type 0
KeysAreFound = (keys : List (Tree ℕ)) (t : Tree ℕ) → is_key keys t ≡ true → StandsIn keys t

-- Keys are read at the first row of a group.
use Rattle.std.specs.Prelude.{◌≡◌, ℕ, true, false, List, [], ◌∷◌, map, Some}
use Rattle.std.specs.List.{IsAmong, AllByRecursion}
use Rattle.limits.specs.declared.bounds.Bounds.{Bounds}
use Rattle.bql_parser.specs.Answer.{query_of}
use Rattle.bql_parser.specs.declared.query.Query.{Query}
use Rattle.bql_tree.specs.Tree.{Tree}
use Rattle.bql_types.specs.Typing.{IsTyped, grouping_of}
use Rattle.bql_types.specs.Shaped.{shape_of}
use Rattle.bql_types.specs.Sought.{aggregates}
use Rattle.query_rows.specs.Grouping.{distinct_keys, members_of}
use Rattle.query_rows.specs.Same.{same_values}
use Rattle.query_rows.specs.declared.shape.Shape.{Shape}
use Rattle.query_values.specs.declared.value.Value.{Value}
use Rattle.bql_meaning.specs.Answer.{keys_at}
use Rattle.bql_meaning.specs.Meaning.{value_of}
use Rattle.bql_meaning.specs.Reading.{Reading}

abbrev pub HasNoAggregate : Tree ℕ → Type 0
HasNoAggregate t = aggregates t ≡ false

-- an expression without aggregates has over rows the value that it has at the first
abbrev pub ReadAtTheFirst : Type 0
ReadAtTheFirst = (b : Bounds) (t : Tree ℕ) → HasNoAggregate t → (r : Reading) (rest : List Reading)
    → value_of b (r ∷ rest) t ≡ value_of b (r ∷ []) t

-- over a group the keys have the values by which it is told
abbrev pub KeysAreOfTheGroup : Type 0
KeysAreOfTheGroup = (b : Bounds) (keys : List (Tree ℕ)) (rows : List Reading) (values : List Value)
    → AllByRecursion HasNoAggregate keys
    → IsAmong (distinct_keys (keys_at b keys) rows) values
    → map (value_of b (members_of (keys_at b keys) rows values)) keys ≡ values

-- and at each of its rows the same
abbrev pub KeysAreOfTheRows : Type 0
KeysAreOfTheRows = (b : Bounds) (keys : List (Tree ℕ)) (rows : List Reading) (values : List Value)
    → AllByRecursion (λ r. same_values (keys_at b keys r) values ≡ true)
    (members_of (keys_at b keys) rows values)

-- a key that has a shape and no aggregates
pub record IsTypedKey (b : Bounds) (t : Tree ℕ) : Type 0 where
  pub shape : Shape
  pub has : shape_of b t ≡ Some shape
  pub plain : HasNoAggregate t

-- so are the keys of a query that has a type
abbrev pub KeysAreTyped : Type 0
KeysAreTyped = (b : Bounds) (q : Query) → IsTyped b (query_of q)
    → AllByRecursion (IsTypedKey b) (grouping_of (query_of q)).keys

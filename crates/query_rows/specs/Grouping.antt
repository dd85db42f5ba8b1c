-- Items that are grouped by keys.
use Rattle.std.specs.Prelude.{List, [], map, filter}
use Rattle.query_values.specs.declared.value.Value.{Value}
use Rattle.query_rows.specs.Same.{same_values, each_once}

module _ {A : Type 0} (keys : A → List Value) where
  -- the keys that there are, in order of first appearance
  abbrev pub distinct_keys : List A → List (List Value)
  distinct_keys items = each_once [] (map keys items)

  -- the items with these keys, in their order
  abbrev pub members_of : List A → List Value → List A
  members_of items these = filter (λ x. same_values (keys x) these) items

  -- a group for each of the distinct keys
  abbrev pub groups_of : List A → List (List A)
  groups_of items = map (members_of items) (distinct_keys items)

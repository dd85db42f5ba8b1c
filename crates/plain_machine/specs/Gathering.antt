-- Groups, and what is gathered in them.
use Rattle.std.specs.Prelude.{ℕ, ◌+◌, ◌&&◌, List, [], ◌∷◌, ◌++◌, map, Option, Some, None}
use Rattle.std.specs.Prelude.{option_map, option_and_then, if◌then◌else◌}
use Rattle.query_values.specs.Aggregate.{aggregate_of, with_more, may_take}
use Rattle.query_values.specs.Held.{is_held, checked}
use Rattle.query_values.specs.declared.operation.Aggregate.{Aggregate}
use Rattle.query_values.specs.declared.operation.Aggregate.TheVariants.{CountRows, SumInventory}
use Rattle.query_values.specs.declared.value.Value.{Value}
use Rattle.query_values.specs.declared.value.Value.TheVariants.{Null}
use Rattle.query_rows.specs.Row.{Row}
use Rattle.query_rows.specs.Same.{same_values}
use Rattle.query_terms.specs.declared.column.Column.TheVariants.{Position}

-- How a group keeps what comes to it: inputs, one for each aggregate but a count of rows; and what
-- becomes of the running inventory at a row that passes. None is a fault.
pub record Keeping (X : Type 0) : Type 0 where
  pub start : X
  pub add : X → List Value → Option X
  pub values : X → List Value
  pub running_on : Value → Row → Option Value

-- keys, and what came to the group
abbrev pub Group : Type 0 → Type 0
Group X = List Value × X

-- how many inputs a row brings
abbrev pub inputs_of : List Aggregate → ℕ
inputs_of [] = 0
inputs_of (CountRows ∷ aggregates) = inputs_of aggregates
inputs_of (a ∷ aggregates) = inputs_of aggregates + 1

abbrev pub front_of : List Value → Option (Value × List Value)
front_of [] = None
front_of (x ∷ xs) = Some (x, xs)

-- the input of an aggregate, and those of the others behind it; rows are counted without one
abbrev pub next_input : Aggregate → List Value → Option (Value × List Value)
next_input CountRows inputs = Some (Null, inputs)
next_input a inputs = front_of inputs

abbrev pub cons_if : {A : Type 0} → Option A → Option (List A) → Option (List A)
cons_if x xs = option_and_then (λ y. option_map (λ ys. y ∷ ys) xs) x

-- each aggregate takes its input
abbrev pub take_each : {X : Type 0} → (Aggregate → X → Value → Option X) → List Aggregate → List X
    → List Value → Option (List X)
take_each take [] ts [] = Some []
take_each take [] ts (x ∷ inputs) = None
take_each take (a ∷ aggregates) [] inputs = None
take_each take (a ∷ aggregates) (t ∷ ts) inputs =
    option_and_then (λ i. cons_if (take a t i.0) (take_each take aggregates ts i.1))
    (next_input a inputs)

-- ---- what is gathered so far

-- one value more, where it may be gathered and what comes of it is held
abbrev pub with_value : Aggregate → Value → Value → Option Value
with_value a t x = checked (may_take a t x) (with_more a t x)

-- the running inventory with the position of a row
abbrev pub running_with : Value → Row → Option Value
running_with running r = with_value (SumInventory 8) running (r.cell Position)

-- ---- the list of the inputs

-- One value more, where it may be gathered behind the others, and what is gathered of all of them
-- is held: so it was over each front of them.
abbrev pub with_input : Aggregate → List Value → Value → Option (List Value)
with_input a xs x =
    if may_take a (aggregate_of a xs) x && is_held (aggregate_of a (xs ++ x ∷ [])) then
    Some (xs ++ x ∷ [])
    else None

abbrev pub aggregates_over : List Aggregate → List (List Value) → List Value
aggregates_over [] lists = []
aggregates_over (a ∷ aggregates) [] = []
aggregates_over (a ∷ aggregates) (xs ∷ lists) = aggregate_of a xs ∷ aggregates_over aggregates lists

-- a group is the lists of its inputs, one for each aggregate
abbrev pub all_inputs : List Aggregate → Keeping (List (List Value))
all_inputs aggregates = record {
  start = map (λ a. []) aggregates;
  add = take_each with_input aggregates;
  values = aggregates_over aggregates;
  running_on = running_with;
}

-- ---- groups of what is gathered so far

-- a group is what each aggregate has gathered
abbrev pub running_values : List Aggregate → Keeping (List Value)
running_values aggregates = record {
  start = map (λ a. aggregate_of a []) aggregates;
  add = take_each with_value aggregates;
  values = λ ts. ts;
  running_on = running_with;
}

-- ---- the groups, in order of first appearance

abbrev pub group_if : {X : Type 0} → List Value → Option X → List (Group X)
    → Option (List (Group X))
group_if keys x groups = option_map (λ y. (keys, y) ∷ groups) x

-- inputs go to the group of their keys; where there is none, a new one stands behind the others
abbrev pub put : {X : Type 0} → Keeping X → List (Group X) → List Value → List Value
    → Option (List (Group X))
put keep [] keys inputs = group_if keys (keep.add keep.start inputs) []
put keep (g ∷ groups) keys inputs =
    if same_values keys g.0 then group_if g.0 (keep.add g.1 inputs) groups
    else cons_if (Some g) (put keep groups keys inputs)

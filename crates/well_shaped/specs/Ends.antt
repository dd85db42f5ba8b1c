-- What sections leave at their end, and what a row section hands to the last section.
use Rattle.std.specs.Prelude.{◌≡◌, ℕ, ◌+◌, Bool, true, false, List, [], ◌∷◌, ◌++◌, length}
use Rattle.std.specs.Prelude.{Option, Some, None, slice_get, option_map, option_and_then}
use Rattle.std.specs.List.{list_all}
use Rattle.query_values.specs.declared.operation.Aggregate.{Aggregate}
use Rattle.query_values.specs.declared.operation.Aggregate.TheVariants.{CountRows}
use Rattle.query_rows.specs.Rules.{aggregate_shape, is_ranked}
use Rattle.query_rows.specs.declared.shape.Shape.{Shape}
use Rattle.query_code.specs.declared.program.Code.{Code}
use Rattle.query_code.specs.declared.program.Output.{Output}
use Rattle.well_shaped.specs.Sections.{given}

-- ---- rows of the answer

-- a number, a text or a day
abbrev pub has_order : Option Shape → Bool
has_order None = false
has_order (Some s) = is_ranked s

-- As many values as there are columns, those to order by included; and what is ordered by has an
-- order.
pub record AreRow (o : Output) (values : List Shape) : Type 0 where
  pub as_many : length values ≡ length o.targets + o.hidden
  pub ordered : list_all (λ column. has_order (slice_get values column)) o.order ≡ true

-- ---- groups

abbrev pub front_of : List Shape → Option (Shape × List Shape)
front_of [] = None
front_of (s ∷ inputs) = Some (s, inputs)

abbrev pub cons_if : Option Shape → Option (List Shape) → Option (List Shape)
cons_if s ss = option_and_then (λ x. option_map (λ xs. x ∷ xs) ss) s

-- The shapes of what is gathered over at most n values by each aggregate of its own input; rows are
-- counted without one. None where an input is not of a kind that its aggregate takes, where what
-- is gathered might not be held, and where there are more inputs or fewer.
abbrev pub gathered : ℕ → List Aggregate → List Shape → Option (List Shape)
gathered n [] [] = Some []
gathered n [] (s ∷ inputs) = None
gathered n (CountRows ∷ aggregates) inputs =
    cons_if (given (aggregate_shape n CountRows None)) (gathered n aggregates inputs)
gathered n (a ∷ aggregates) inputs =
    option_and_then
    (λ i. cons_if (given (aggregate_shape n a (Some i.0))) (gathered n aggregates i.1))
    (front_of inputs)

-- The values that the row section leaves are keys, and behind them the inputs of the aggregates,
-- which gather so much over at most n postings.
pub record HandsOver (n : ℕ) (c : Code) (values keys totals : List Shape) : Type 0 where
  pub inputs : List Shape
  pub are : values ≡ keys ++ inputs
  pub as_many : length keys ≡ c.keys
  pub gather : gathered n c.aggregates inputs ≡ Some totals
